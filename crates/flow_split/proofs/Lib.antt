pub mod PiecesJoin
