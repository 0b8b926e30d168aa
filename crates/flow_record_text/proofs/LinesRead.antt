-- What is read of a text grows line by line.
use Rattle.std.proofs.Common.{◌≡◌, ◌<◌, ◌+◌, ◌-◌, ◌^◌, min, ℕ, List, [], ◌∷◌, ◌++◌, length, take, drop, replicate, refl, ap, sym, ◌∙◌, arith, append_assoc, Option, Some, None, subst, get_or, set, nat_eq, false}
use Rattle.std.specs.Prelude.{IfSome, IfOk, IfErr, Result, Ok, Err}
use Rattle.std.specs.Io.{StartsWith}
use Rattle.std.specs.Io.KnownBytes.{Keeps, Consumes, prepend_known}
use Rattle.std.proofs.lemmas.List.{get_or-take, length-take, take-append-drop}
use Rattle.std.proofs.Math.Seq.{take-add}
use Rattle.csv.specs.Machine.{next_record}
use Rattle.csv.specs.Reading.{default_config, strip_bom, Reached}
use Rattle.csv.specs.declared.parser.State.TheVariants as at
use Rattle.flow_value.specs.declared.value.Value.{Value}
use Rattle.flow_value.specs.declared.value.Value.TheVariants.{Text}
use Rattle.flow_fault_text.specs.declared.fault.TextFault.{TextFault}
use Rattle.flow_fault_text.specs.declared.fault.TextFault.TheVariants.{Csv, NotUtf8, UnknownInput, Read}
use Rattle.flow_fault_text.specs.declared.fault.TextRefusal.{TextRefusal}
use Rattle.flow_fault_text.specs.declared.fault.TextRefusal.TheVariants.{Fault, Memory}
use Rattle.flow_record_text.specs.Records.{Row, HasFault, PostAll, Explains, Posts, IsNotPosted}
use Rattle.flow_record_text.specs.Lines.{IsPlain, IsRead, PostAllOf, IsFirstOf, ExplainsOf, GoesOn, Stops, GoesFrom, StopsFrom, ReadsLine, LeavesLine, Begun}
use Rattle.flow_record_text.proofs.PlainLines.{line_name, line_field, plain-next, past-feed, feed-stays, first-stays, reached-more}
use Rattle.flow_record_text.proofs.RecordsPost.{records-more, records-none, posts-fine, all-fine-more, counted-on, next-number}

-- a text that begins with bytes of which the first is none of a byte order mark
pub plain-start : (left : Option (List ℕ)) (shown : List ℕ) → IfSome left (λ bytes. StartsWith bytes shown) → 0 < length shown → nat_eq (get_or shown 0 0) 239 ≡ false
    → IfSome left (λ bytes. strip_bom bytes ≡ bytes)
plain-start None shown front some other = tt
plain-start (Some bytes) shown front some other =
    let long : length shown ≡ min (length shown) (length bytes) = ap length (sym front) ∙ length-take (length shown) bytes in
    let first : get_or shown 0 0 ≡ get_or bytes 0 0 = ap (λ (piece : List ℕ). get_or piece 0 0) (sym front) ∙ get_or-take (length shown) bytes 0 0 some in
    first-stays bytes (omega (arith, long, some)) (ap (λ b. nat_eq b 239) (sym first) ∙ other)

is-empty : (bytes : List ℕ) → length bytes ≡ 0 → bytes ≡ []
is-empty [] none = refl
is-empty (b ∷ bytes) none = absurd (omega (arith, none))

module _ (names : List (List ℕ)) where
  -- one more record that is posted
  pub read-more : (number next : ℕ) (values after : List (List Value)) (bytes left more : List ℕ) (row : Row) → IsRead names number values bytes left
      → next_record default_config at.StartRecord [] [] left ≡ Some (row, at.StartRecord, more) → Posts names row number values next after
      → IsRead names next after bytes more
  read-more number next values after bytes left more row read here posts = record {
    rows = read.rows ++ row ∷ [];
    reached = reached-more default_config at.StartRecord at.StartRecord at.StartRecord bytes left more read.rows row read.reached here;
    fine = all-fine-more names read.rows row read.fine (posts-fine names row posts.0 posts.1 posts.2);
    count = counted-on read.rows row number next read.count posts.4;
    posted = posts.3 ∙ ap (λ vs. set vs posts.0 (get_or vs posts.0 [] ++ Text posts.1 ∷ [])) read.posted
        ∙ sym (records-more names read.rows row posts.0 posts.1 posts.2);
  }

  -- a fault of the first record that can't be posted explains the refusal
  explained : (bytes : List ℕ) (fault : TextFault) → IsFirstOf names bytes fault → ExplainsOf names bytes (Fault fault)
  explained bytes Read first = tt
  explained bytes (Csv n) first = first
  explained bytes (NotUtf8 n) first = first
  explained bytes (UnknownInput n) first = first
  explained bytes _ first = first

  pub refused-at : (number : ℕ) (values : List (List Value)) (bytes left more : List ℕ) (row : Row) (refusal : TextRefusal)
      → IsRead names number values bytes left → next_record default_config at.StartRecord [] [] left ≡ Some (row, at.StartRecord, more)
      → IsNotPosted names row number refusal → ExplainsOf names bytes refusal
  refused-at number values bytes left more row Memory read here why = tt
  refused-at number values bytes left more row (Fault fault) read here why =
      explained bytes fault (
        read.rows,
        row,
        at.StartRecord,
        more,
        reached-more default_config at.StartRecord at.StartRecord at.StartRecord bytes left more read.rows row read.reached here,
        read.fine,
        subst (λ n. HasFault names n row fault) (next-number number _ (length read.rows) read.count refl) why,
      )

  -- no line yet
  pub goes-none : (number : ℕ) (values : List (List Value)) (bytes : List ℕ) → GoesOn names number values number values (take 0 bytes)
  goes-none number values bytes text more read = read

  -- one line more
  pub goes-line : (n0 n1 n2 : ℕ) (v0 v1 v2 : List (List Value)) (bytes rest : List ℕ) (used comma end : ℕ) → rest ≡ drop used bytes
      → GoesOn names n0 v0 n1 v1 (take used bytes) → IsPlain rest comma end
      → Posts names (line_name rest comma ∷ line_field rest comma end ∷ []) n1 v1 n2 v2
      → GoesOn names n0 v0 n2 v2 (take (used + (end + 1)) bytes)
  goes-line n0 n1 n2 v0 v1 v2 bytes rest used comma end is so_far plain posts text more read =
      let piece = take (end + 1) rest in
      let parts : take (used + (end + 1)) bytes ≡ take used bytes ++ piece =
      take-add used (end + 1) bytes ∙ ap (λ left. take used bytes ++ take (end + 1) left) (sym is) in
      let whole = ap (λ left. left ++ more) parts ∙ append_assoc (take used bytes) piece more in
      let here = so_far text (piece ++ more) (subst (λ left. IsRead names n0 v0 text left) whole read) in
      read-more n1 n2 v1 v2 text (piece ++ more) more _ here (plain-next rest comma end plain more) posts

  -- one line that can't be posted
  pub stops-line : (n0 n1 : ℕ) (v0 v1 : List (List Value)) (bytes rest : List ℕ) (used comma end : ℕ) (refusal : TextRefusal) → rest ≡ drop used bytes
      → GoesOn names n0 v0 n1 v1 (take used bytes) → IsPlain rest comma end
      → IsNotPosted names (line_name rest comma ∷ line_field rest comma end ∷ []) n1 refusal → Stops names n0 v0 bytes refusal
  stops-line n0 n1 v0 v1 bytes rest used comma end refusal is so_far plain why text more read =
      let piece = take (end + 1) rest in
      let behind = drop (end + 1) rest ++ more in
      let parts : bytes ≡ take used bytes ++ (piece ++ drop (end + 1) rest) =
      sym (take-append-drop used bytes) ∙ ap (λ left. take used bytes ++ left) (sym is ∙ sym (take-append-drop (end + 1) rest)) in
      let whole = ap (λ left. left ++ more) parts ∙ append_assoc (take used bytes) (piece ++ drop (end + 1) rest) more
      ∙ ap (λ left. take used bytes ++ left) (append_assoc piece (drop (end + 1) rest) more) in
      let here = so_far text (piece ++ behind) (subst (λ left. IsRead names n0 v0 text left) whole read) in
      refused-at n1 v1 text (piece ++ behind) behind _ refusal here (plain-next rest comma end plain behind) why

  -- where a piece in front of it is
  pub from-piece : (n0 n1 : ℕ) (v0 v1 : List (List Value)) (old new : Option (List ℕ)) (piece : List ℕ) → Consumes old new piece
      → GoesOn names n0 v0 n1 v1 piece → GoesFrom names n0 v0 n1 v1 old new
  from-piece n0 n1 v0 v1 None new piece moved goes = tt
  from-piece n0 n1 v0 v1 (Some left) None piece moved goes = moved
  from-piece n0 n1 v0 v1 (Some left) (Some more) piece moved goes = λ bytes read. goes bytes more (subst (IsRead names n0 v0 bytes) moved read)

  -- where reading stops within what is shown of it
  pub stops-shown : (n : ℕ) (v : List (List Value)) (old : Option (List ℕ)) (shown : List ℕ) (refusal : TextRefusal) → IfSome old (λ left. StartsWith left shown)
      → Stops names n v shown refusal → StopsFrom names n v old refusal
  stops-shown n v None shown refusal front stops = tt
  stops-shown n v (Some left) shown refusal front stops = λ bytes read.
      let parts : left ≡ shown ++ drop (length shown) left =
      sym (take-append-drop (length shown) left) ∙ ap (λ piece. piece ++ drop (length shown) left) front in
      stops bytes (drop (length shown) left) (subst (IsRead names n v bytes) parts read)

  -- one after the other
  pub from-both : (n0 n1 n2 : ℕ) (v0 v1 v2 : List (List Value)) (a b c : Option (List ℕ)) → GoesFrom names n0 v0 n1 v1 a b → GoesFrom names n1 v1 n2 v2 b c
      → GoesFrom names n0 v0 n2 v2 a c
  from-both n0 n1 n2 v0 v1 v2 None b c first second = tt
  from-both n0 n1 n2 v0 v1 v2 (Some left) None c first second = absurd first
  from-both n0 n1 n2 v0 v1 v2 (Some left) (Some next) None first second = second
  from-both n0 n1 n2 v0 v1 v2 (Some left) (Some next) (Some more) first second = λ bytes read. second bytes (first bytes read)

  pub stops-both : (n0 n1 : ℕ) (v0 v1 : List (List Value)) (a b : Option (List ℕ)) (refusal : TextRefusal) → GoesFrom names n0 v0 n1 v1 a b
      → StopsFrom names n1 v1 b refusal → StopsFrom names n0 v0 a refusal
  stops-both n0 n1 v0 v1 None b refusal first second = tt
  stops-both n0 n1 v0 v1 (Some left) None refusal first second = absurd first
  stops-both n0 n1 v0 v1 (Some left) (Some next) refusal first second = λ bytes read. second bytes (first bytes read)

  -- a line that was read by itself
  pub from-line : (n0 n1 : ℕ) (v0 v1 : List (List Value)) (old new : Option (List ℕ)) (line : List ℕ) → ReadsLine old new line
      → GoesOn names n0 v0 n1 v1 (drop 1 line) → GoesFrom names n0 v0 n1 v1 old new
  from-line n0 n1 v0 v1 None new line reads goes = tt
  from-line n0 n1 v0 v1 (Some left) None line reads goes = reads
  from-line n0 n1 v0 v1 (Some left) (Some more) line (rest, is, parts, ended) goes = λ bytes read.
      goes bytes more (subst (IsRead names n0 v0 bytes) (parts ∙ ap (λ (whole : List ℕ). drop 1 whole ++ more) (sym is)) read)

  pub stops-line-read : (n : ℕ) (v : List (List Value)) (old new : Option (List ℕ)) (line : List ℕ) (refusal : TextRefusal) → ReadsLine old new line
      → Stops names n v (drop 1 line) refusal → StopsFrom names n v old refusal
  stops-line-read n v None new line refusal reads stops = tt
  stops-line-read n v (Some left) None line refusal reads stops = absurd reads
  stops-line-read n v (Some left) (Some more) line refusal (rest, is, parts, ended) stops = λ bytes read.
      stops bytes more (subst (IsRead names n v bytes) (parts ∙ ap (λ (whole : List ℕ). drop 1 whole ++ more) (sym is)) read)

  -- of a text of which nothing is read
  pub read-none : (count : ℕ) (values : List (List Value)) (bytes : List ℕ) → count ≡ length names → values ≡ replicate count [] → IsRead names 0 values bytes bytes
  unfolding Reached
  read-none count values bytes counted none = record {
    rows = [];
    reached = (refl, refl);
    fine = tt;
    count = refl;
    posted = none ∙ ap (λ n. replicate n []) counted ∙ sym (records-none names);
  }

  -- the rest of it is begun anew
  pub begun-all : (count : ℕ) (values : List (List Value)) (bytes : List ℕ) → count ≡ length names → values ≡ replicate count []
      → Begun names 0 values (strip_bom bytes) bytes
  begun-all count values bytes counted none = record { rest = strip_bom bytes; read = read-none count values (strip_bom bytes) counted none; same = refl }

  pub begun-line : (n : ℕ) (v : List (List Value)) (bytes line rest more : List ℕ) → line ≡ 10 ∷ rest → IsRead names n v bytes (rest ++ more)
      → Begun names n v bytes (line ++ more)
  begun-line n v bytes line rest more is read = record {
    rest = rest ++ more;
    read = read;
    same = ap (λ (whole : List ℕ). next_record default_config at.StartRecord [] [] (strip_bom (whole ++ more))) is
        ∙ ap (next_record default_config at.StartRecord [] []) (feed-stays (rest ++ more)) ∙ past-feed (rest ++ more);
  }

  -- what is said of the bytes behind a byte order mark is said of the text
  pub explains-all : (bytes : List ℕ) (refusal : TextRefusal) → ExplainsOf names (strip_bom bytes) refusal → Explains names bytes refusal
  explains-all bytes (Fault Read) why = tt
  explains-all bytes (Fault (Csv n)) why = why
  explains-all bytes (Fault (NotUtf8 n)) why = why
  explains-all bytes (Fault (UnknownInput n)) why = why
  explains-all bytes (Fault _) why = why
  explains-all bytes Memory why = tt

  -- where a text is begun, of which these bytes are left
  abbrev pub BeginsAt : (number : ℕ) (values : List (List Value)) (text left : Option (List ℕ)) → Type 0
  BeginsAt number values None left = Unit {0}
  BeginsAt number values (Some bytes) None = ⊥
  BeginsAt number values (Some bytes) (Some whole) = Begun names number values (strip_bom bytes) whole

  -- at a line that is none of the plain ones
  pub begins-lines : (count n : ℕ) (v0 v : List (List Value)) (text kept left : Option (List ℕ)) (line : List ℕ) → count ≡ length names → v0 ≡ replicate count []
      → Keeps text kept → IfSome text (λ bytes. strip_bom bytes ≡ bytes) → LeavesLine names 0 v0 n v kept left line
      → BeginsAt n v text (prepend_known (drop 0 line) left)
  begins-lines count n v0 v None kept left line counted none keeps plain leaves = tt
  begins-lines count n v0 v (Some bytes) None left line counted none keeps plain leaves = absurd keeps
  begins-lines count n v0 v (Some bytes) (Some kept) None line counted none keeps plain leaves = absurd leaves
  begins-lines count n v0 v (Some bytes) (Some kept) (Some more) line counted none keeps plain leaves =
      let first = subst (IsRead names 0 v0 (strip_bom bytes)) (plain ∙ sym keeps) (read-none count v0 (strip_bom bytes) counted none) in
      let left = leaves (strip_bom bytes) first in
      begun-line n v (strip_bom bytes) line left.0 more left.1 left.2

  -- nothing is left behind an empty line
  pub posts-lines : (count n : ℕ) (v0 v : List (List Value)) (text kept left : Option (List ℕ)) (line : List ℕ) → count ≡ length names → v0 ≡ replicate count []
      → Keeps text kept → IfSome text (λ bytes. strip_bom bytes ≡ bytes) → LeavesLine names 0 v0 n v kept left line → length line ≡ 1
      → IfSome text (λ bytes. PostAll names bytes v)
  unfolding next_record
  posts-lines count n v0 v None kept left line counted none keeps plain leaves empty = tt
  posts-lines count n v0 v (Some bytes) None left line counted none keeps plain leaves empty = absurd keeps
  posts-lines count n v0 v (Some bytes) (Some kept) None line counted none keeps plain leaves empty = absurd leaves
  posts-lines count n v0 v (Some bytes) (Some kept) (Some more) line counted none keeps plain leaves empty =
      let first = subst (IsRead names 0 v0 (strip_bom bytes)) (plain ∙ sym keeps) (read-none count v0 (strip_bom bytes) counted none) in
      let left = leaves (strip_bom bytes) first in
      let nothing = is-empty left.0 (omega (arith, empty, ap length left.1)) in
      let ended : left.0 ++ more ≡ [] = ap (λ (rest : List ℕ). rest ++ more) nothing ∙ left.3 nothing in
      let read = left.2 in
      (read.rows, (at.StartRecord, [], subst (Reached default_config at.StartRecord (strip_bom bytes) read.rows at.StartRecord) ended read.reached, refl), read.fine, read.posted)

  -- or from its first byte on
  pub begins-all : (count : ℕ) (v0 : List (List Value)) (text kept : Option (List ℕ)) → count ≡ length names → v0 ≡ replicate count [] → Keeps text kept
      → BeginsAt 0 v0 text (prepend_known (drop 0 []) kept)
  begins-all count v0 None kept counted none keeps = tt
  begins-all count v0 (Some bytes) None counted none keeps = keeps
  begins-all count v0 (Some bytes) (Some kept) counted none keeps =
      subst (Begun names 0 v0 (strip_bom bytes)) (sym keeps) (begun-all count v0 bytes counted none)

  pub ends-all : (n : ℕ) (v all : List (List Value)) (text left : Option (List ℕ)) → BeginsAt n v text left
      → IfSome left (λ whole. (bytes : List ℕ) → Begun names n v bytes whole → PostAllOf names bytes all) → IfSome text (λ bytes. PostAll names bytes all)
  ends-all n v all None left begun posts = tt
  ends-all n v all (Some bytes) None begun posts = absurd begun
  ends-all n v all (Some bytes) (Some whole) begun posts = posts (strip_bom bytes) begun

  pub refuses-all : (n : ℕ) (v : List (List Value)) (text left : Option (List ℕ)) (refusal : TextRefusal) → BeginsAt n v text left
      → IfSome left (λ whole. (bytes : List ℕ) → Begun names n v bytes whole → ExplainsOf names bytes refusal) → IfSome text (λ bytes. Explains names bytes refusal)
  refuses-all n v None left refusal begun why = tt
  refuses-all n v (Some bytes) None refusal begun why = absurd begun
  refuses-all n v (Some bytes) (Some whole) refusal begun why = explains-all bytes refusal (why (strip_bom bytes) begun)

  -- it is refused at one of the plain lines
  pub refuses-lines : (count : ℕ) (v0 : List (List Value)) (text kept : Option (List ℕ)) (refusal : TextRefusal) → count ≡ length names → v0 ≡ replicate count []
      → Keeps text kept → IfSome text (λ bytes. strip_bom bytes ≡ bytes) → StopsFrom names 0 v0 kept refusal → IfSome text (λ bytes. Explains names bytes refusal)
  refuses-lines count v0 None kept refusal counted none keeps plain stops = tt
  refuses-lines count v0 (Some bytes) None refusal counted none keeps plain stops = absurd keeps
  refuses-lines count v0 (Some bytes) (Some kept) refusal counted none keeps plain stops =
      let first = subst (IsRead names 0 v0 (strip_bom bytes)) (plain ∙ sym keeps) (read-none count v0 (strip_bom bytes) counted none) in
      explains-all bytes refusal (stops (strip_bom bytes) first)

-- what follows of an answer
pub of-ok : {A E : Type 0} (result : Result A E) (P Q : A → Type 0) → ((answer : A) → P answer → Q answer) → IfOk result P → IfOk result Q
of-ok (Ok answer) P Q follows holds = follows answer holds
of-ok (Err refusal) P Q follows holds = tt

pub of-err : {A E : Type 0} (result : Result A E) (P Q : E → Type 0) → ((refusal : E) → P refusal → Q refusal) → IfErr result P → IfErr result Q
of-err (Ok answer) P Q follows holds = tt
of-err (Err refusal) P Q follows holds = follows refusal holds
