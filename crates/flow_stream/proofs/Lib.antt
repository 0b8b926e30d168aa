pub mod PostedAsRead
