-- What is read of a text grows record by record, as a reader of CSV gives them.
use Rattle.std.proofs.Common.{◌≡◌, ◌+◌, ◌-◌, ◌^◌, ℕ, List, [], ◌∷◌, ◌++◌, length, refl, ap, sym, ◌∙◌, Option, Some, None, true, false, subst, get_or, set}
use Rattle.std.specs.Prelude.{IfSome, option_map}
use Rattle.csv.specs.Machine.{next_record}
use Rattle.csv.specs.Reading.{default_config, strip_bom, Reached, ReadRecord, source_of, reader_state, reader_config}
use Rattle.csv.specs.declared.reader.Reader.{Reader}
use Rattle.csv.specs.declared.parser.State.{State}
use Rattle.csv.specs.declared.parser.State.TheVariants as at
use Rattle.csv.proofs.ReadFacts.{rows-more, rows-end}
use Rattle.flow_value.specs.declared.value.Value.{Value}
use Rattle.flow_value.specs.declared.value.Value.TheVariants.{Text}
use Rattle.flow_fault_text.specs.declared.fault.TextFault.{TextFault}
use Rattle.flow_fault_text.specs.declared.fault.TextFault.TheVariants.{Csv, NotUtf8, UnknownInput, Read}
use Rattle.flow_fault_text.specs.declared.fault.TextRefusal.{TextRefusal}
use Rattle.flow_fault_text.specs.declared.fault.TextRefusal.TheVariants.{Fault, Memory}
use Rattle.flow_record_text.specs.Records.{Row, AllFine, HasFault, IsNotPosted, Posts, told_number, records}
use Rattle.flow_record_text.specs.Lines.{Begun, PostAllOf, IsFirstOf, ExplainsOf}
use Rattle.flow_record_text.proofs.RecordsPost.{records-more, posts-fine, all-fine-more, counted-on, next-number}

-- what was read so far: the records before, and those that the reader gave, from a state and bytes that read as those that it has
pub record SoFar {R : Type 0} (known : R → Option (List ℕ)) (names : List (List ℕ)) (number : ℕ) (values : List (List Value)) (reader : Reader R) (bytes : List ℕ) : Type 0 where
  pub rows : List Row
  pub left : List ℕ
  pub state : State
  pub rest : List ℕ
  pub source : source_of known reader ≡ Some left
  pub same : next_record default_config (reader_state reader) [] [] left ≡ next_record default_config state [] [] rest
  pub reached : Reached default_config at.StartRecord bytes rows state rest
  pub fine : AllFine names rows
  pub count : number ≡ told_number (length rows)
  pub posted : values ≡ records names rows

abbrev pub FromBegun : {R : Type 0} → (R → Option (List ℕ)) → List (List ℕ) → ℕ → List (List Value) → Option (List ℕ) → ℕ → List (List Value) → Reader R → Type 0
FromBegun known names n0 v0 left number values reader = IfSome left (λ whole. (bytes : List ℕ) → Begun names n0 v0 bytes whole → SoFar known names number values reader bytes)

-- the reader has given nothing
pub from-start : {R : Type 0} (known : R → Option (List ℕ)) (names : List (List ℕ)) (number : ℕ) (values : List (List Value)) (a : Reader R) (left : Option (List ℕ))
    → source_of known a ≡ option_map strip_bom left → reader_state a ≡ at.StartRecord → FromBegun known names number values left number values a
from-start known names number values a None source state = tt
from-start known names number values a (Some whole) source state = λ bytes begun. record {
  rows = begun.read.rows;
  left = strip_bom whole;
  state = at.StartRecord;
  rest = begun.rest;
  source = source;
  same = ap (λ s. next_record default_config s [] [] (strip_bom whole)) state ∙ begun.same;
  reached = begun.read.reached;
  fine = begun.read.fine;
  count = begun.read.count;
  posted = begun.read.posted;
}

-- a record that is reached from what reads alike
alike : (s0 s1 s2 s3 : State) (text left rest more : List ℕ) (rows : List Row) (row : Row) → Reached default_config s0 text rows s1 rest
    → next_record default_config s2 [] [] left ≡ next_record default_config s1 [] [] rest → Reached default_config s2 left (row ∷ []) s3 more
    → Reached default_config s0 text (rows ++ row ∷ []) s3 more
unfolding Reached
alike s0 s1 s2 s3 text left rest more [] row (same, is) equal (p, here, named, further) = (p, rw (same, is) (sym equal ∙ here), named, further)
alike s0 s1 s2 s3 text left rest more (_ ∷ rows) row (q, there, is, on) equal next = (q, there, is, alike q.1 s1 s2 s3 q.2 left rest more rows row on equal next)

here-reached : (s : State) (left : List ℕ) → Reached default_config s left [] s left
unfolding Reached
here-reached s left = (refl, refl)

module _ {R : Type 0} (known : R → Option (List ℕ)) (names : List (List ℕ)) (number : ℕ) (values : List (List Value)) (a b : Reader R) (row : Row)
    (config : reader_config a ≡ default_config) where
  -- one more record
  pub next-row : (bytes : List ℕ) (so_far : SoFar known names number values a bytes) → ReadRecord known a b true row
      → (more : List ℕ) × (source_of known b ≡ Some more) × Reached default_config at.StartRecord bytes (so_far.rows ++ row ∷ []) (reader_state b) more
  next-row bytes so_far read =
      let more = rows-more known a b row default_config (reader_state a) so_far.left so_far.left [] config so_far.source (here-reached (reader_state a) so_far.left) read in
      (more.0, more.1, alike at.StartRecord so_far.state (reader_state a) (reader_state b) bytes so_far.left so_far.rest more.0 so_far.rows row so_far.reached so_far.same more.2)

  -- that is posted
  pub row-more : (n0 : ℕ) (v0 : List (List Value)) (left : Option (List ℕ)) (next : ℕ) (after : List (List Value)) → FromBegun known names n0 v0 left number values a
      → ReadRecord known a b true row → Posts names row number values next after → FromBegun known names n0 v0 left next after b
  row-more n0 v0 None next after so_far read posts = tt
  row-more n0 v0 (Some whole) next after begun read posts = λ bytes first.
      let so_far = begun bytes first in
      let more = next-row bytes so_far read in
      record {
        rows = so_far.rows ++ row ∷ [];
        left = more.0;
        state = reader_state b;
        rest = more.0;
        source = more.1;
        same = refl;
        reached = more.2;
        fine = all-fine-more names so_far.rows row so_far.fine (posts-fine names row posts.0 posts.1 posts.2);
        count = counted-on so_far.rows row number next so_far.count posts.4;
        posted = posts.3 ∙ ap (λ vs. set vs posts.0 (get_or vs posts.0 [] ++ Text posts.1 ∷ [])) so_far.posted
            ∙ sym (records-more names so_far.rows row posts.0 posts.1 posts.2);
      }

  -- there are no more
  pub row-end : (n0 : ℕ) (v0 : List (List Value)) (left : Option (List ℕ)) → FromBegun known names n0 v0 left number values a → ReadRecord known a b false row
      → IfSome left (λ whole. (bytes : List ℕ) → Begun names n0 v0 bytes whole → PostAllOf names bytes values)
  row-end n0 v0 None begun read = tt
  row-end n0 v0 (Some whole) begun read = λ bytes first.
      let so_far = begun bytes first in
      let none = rows-end known a b row default_config so_far.left config so_far.source read in
      (so_far.rows, (so_far.state, so_far.rest, so_far.reached, sym so_far.same ∙ none), so_far.fine, so_far.posted)

  explained : (bytes : List ℕ) (fault : TextFault) → IsFirstOf names bytes fault → ExplainsOf names bytes (Fault fault)
  explained bytes Read first = tt
  explained bytes (Csv n) first = first
  explained bytes (NotUtf8 n) first = first
  explained bytes (UnknownInput n) first = first
  explained bytes _ first = first

  -- one that can't be posted
  pub row-refused : (n0 : ℕ) (v0 : List (List Value)) (left : Option (List ℕ)) (refusal : TextRefusal) → FromBegun known names n0 v0 left number values a
      → ReadRecord known a b true row → IsNotPosted names row number refusal
      → IfSome left (λ whole. (bytes : List ℕ) → Begun names n0 v0 bytes whole → ExplainsOf names bytes refusal)
  row-refused n0 v0 None refusal begun read why = tt
  row-refused n0 v0 (Some whole) Memory begun read why = λ bytes first. tt
  row-refused n0 v0 (Some whole) (Fault fault) begun read why = λ bytes first.
      let so_far = begun bytes first in
      let more = next-row bytes so_far read in
      explained bytes fault (
        so_far.rows,
        row,
        reader_state b,
        more.0,
        more.2,
        so_far.fine,
        subst (λ n. HasFault names n row fault) (next-number number _ (length so_far.rows) so_far.count refl) why,
      )
