-- A reader of CSV gives a plain line as its two fields.
use Rattle.std.proofs.Common.{◌≡◌, ◌≤◌, ◌<◌, ◌+◌, ◌-◌, ℕ, suc, zero, List, [], ◌∷◌, ◌++◌, length, take, drop, get_or, refl, ap, sym, ◌∙◌, arith, append_assoc, Some, Bool, true, false, subst, inl, inr, ◌⊎◌}
use Rattle.std.proofs.lemmas.Bool.{false≢true, cases_lt}
use Rattle.std.specs.Prelude.{◌==◌, ◌&&◌, not}
use Rattle.std.proofs.lemmas.List.{append-nil, get_or-drop, length-drop, take_more}
use Rattle.std.proofs.Math.Seq.{drop-cons, take-add}
use Rattle.csv.specs.Machine.{next_record, step}
use Rattle.csv.specs.Reading.{default_config, strip_bom, Reached}
use Rattle.csv.specs.declared.parser.Config.{Config}
use Rattle.csv.specs.declared.parser.State.{State}
use Rattle.csv.specs.declared.parser.State.TheVariants as at
use Rattle.csv.specs.declared.parser.Action.TheVariants as act
use Rattle.flow_record_text.specs.Records.{Row}
use Rattle.flow_record_text.specs.Lines.{is_ordinary, AllOrdinary, IsPlain}

-- what an ordinary byte is not
both : (a b : Bool) → (a && b) ≡ true → (a ≡ true) × (b ≡ true)
both true b h = (refl, h)
both false b h = absurd (false≢true h)

is_not : (a : Bool) → not a ≡ true → a ≡ false
is_not false h = refl
is_not true h = absurd (false≢true h)

record IsOther (b : ℕ) : Type 0 where
  comma : (b == 44) ≡ false
  feed : (b == 10) ≡ false
  quote : (b == 34) ≡ false
  return : (b == 13) ≡ false

other : (b : ℕ) → is_ordinary b ≡ true → IsOther b
other b h =
    let last = both (not (b == 44) && not (b == 10) && not (b == 34)) (not (b == 13)) h in
    let third = both (not (b == 44) && not (b == 10)) (not (b == 34)) last.0 in
    let first = both (not (b == 44)) (not (b == 10)) third.0 in
    record { comma = is_not _ first.0; feed = is_not _ first.1; quote = is_not _ third.1; return = is_not _ last.1 }

-- it joins the field at hand
joins-record : (b : ℕ) → is_ordinary b ≡ true → step default_config at.StartRecord b ≡ (at.InField, act.Copy)
joins-record b h = let o = other b h in rw (o.comma, o.feed, o.quote, o.return) refl

joins-start : (b : ℕ) → is_ordinary b ≡ true → step default_config at.StartField b ≡ (at.InField, act.Copy)
joins-start b h = let o = other b h in rw (o.comma, o.feed, o.quote, o.return) refl

joins-field : (b : ℕ) → is_ordinary b ≡ true → step default_config at.InField b ≡ (at.InField, act.Copy)
joins-field b h = let o = other b h in rw (o.comma, o.feed, o.return) refl

-- each of these bytes is ordinary
abbrev Ordinary : List ℕ → Type 0
Ordinary [] = Unit {0}
Ordinary (b ∷ bytes) = (is_ordinary b ≡ true) × Ordinary bytes

within-field : (bytes rest : List ℕ) (fields : List (List ℕ)) (field : List ℕ) → Ordinary bytes
    → next_record default_config at.InField fields field (bytes ++ rest) ≡ next_record default_config at.InField fields (field ++ bytes) rest
unfolding next_record
within-field [] rest fields field all = ap (λ whole. next_record default_config at.InField fields whole rest) (sym (append-nil field))
within-field (b ∷ bytes) rest fields field all =
    let joined = joins-field b all.0 in
    rw joined (within-field bytes rest fields (field ++ b ∷ []) all.1
    ∙ ap (λ whole. next_record default_config at.InField fields whole rest) (append_assoc field (b ∷ []) bytes))

-- the first field, up to the comma
first-field : (name rest : List ℕ) → Ordinary name
    → next_record default_config at.StartRecord [] [] (name ++ 44 ∷ rest) ≡ next_record default_config at.StartField (name ∷ []) [] rest
unfolding next_record
first-field [] rest all = refl
first-field (b ∷ name) rest all =
    let joined = joins-record b all.0 in
    rw joined (within-field name (44 ∷ rest) [] (b ∷ []) all.1)

-- the second, up to the line feed
second-field : (field rest : List ℕ) (fields : List (List ℕ)) → Ordinary field
    → next_record default_config at.StartField fields [] (field ++ 10 ∷ rest) ≡ Some (fields ++ field ∷ [], at.StartRecord, rest)
unfolding next_record
second-field [] rest fields all = refl
second-field (b ∷ field) rest fields all =
    let joined = joins-start b all.0 in
    rw joined (within-field field (10 ∷ rest) fields (b ∷ []) all.1)

ordinary-take : (bytes : List ℕ) (n : ℕ) → n ≤ length bytes → AllOrdinary bytes 0 n → Ordinary (take n bytes)
ordinary-take bytes zero low all = tt
ordinary-take [] (suc n) low all = absurd (omega arith)
ordinary-take (b ∷ bytes) (suc n) low all =
    (all 0 (omega arith) (omega arith), ordinary-take bytes n (omega arith) (λ j from to. all (suc j) (omega arith) (omega arith)))

-- one more byte that is ordinary
pub ordinary-more : (bytes : List ℕ) (from place : ℕ) → AllOrdinary bytes from place → is_ordinary (get_or bytes place 0) ≡ true → AllOrdinary bytes from (place + 1)
ordinary-more bytes from place all here j low high = split (cases_lt j place)
  where
    split : (j < place) ⊎ (place ≤ j) → is_ordinary (get_or bytes j 0) ≡ true
    split (inl less) = all j low less
    split (inr more) = subst (λ k. is_ordinary (get_or bytes k 0) ≡ true) (omega (arith, more, high)) here

-- the two fields of a plain line, and what stands behind it
abbrev pub line_name : List ℕ → ℕ → List ℕ
line_name bytes comma = take comma bytes

abbrev pub line_field : List ℕ → ℕ → ℕ → List ℕ
line_field bytes comma end = take (end - (comma + 1)) (drop (comma + 1) bytes)

module _ (bytes : List ℕ) (comma end : ℕ) (plain : IsPlain bytes comma end) where
  name-ordinary : Ordinary (line_name bytes comma)
  name-ordinary = ordinary-take bytes comma (omega (arith, plain.after, plain.within)) plain.name

  field-ordinary : Ordinary (line_field bytes comma end)
  field-ordinary =
      let long = length-drop (comma + 1) bytes in
      ordinary-take (drop (comma + 1) bytes) (end - (comma + 1)) (omega (arith, long, plain.after, plain.within)) (λ j from to.
      ap is_ordinary (get_or-drop (comma + 1) bytes j 0) ∙ plain.field (comma + 1 + j) (omega arith) (omega (arith, to)))

  parted : take (end + 1) bytes ≡ line_name bytes comma ++ ((44 ∷ line_field bytes comma end) ++ 10 ∷ [])
  parted =
      let count = end - (comma + 1) in
      let place : end ≡ comma + suc count = omega (arith, plain.after) in
      let last = take_more bytes end 0 plain.within ∙ ap (λ b. take end bytes ++ b ∷ []) plain.ends in
      let middle = drop-cons bytes comma 0 (omega (arith, plain.after, plain.within)) ∙ ap (λ b. b ∷ drop (suc comma) bytes) plain.parts in
      let next : suc comma ≡ comma + 1 = omega arith in
      let front : take end bytes ≡ line_name bytes comma ++ 44 ∷ line_field bytes comma end =
      ap (λ n. take n bytes) place ∙ take-add comma (suc count) bytes ∙ ap (λ rest. line_name bytes comma ++ take (suc count) rest) middle
      ∙ ap (λ n. line_name bytes comma ++ 44 ∷ take count (drop n bytes)) next in
      last ∙ ap (λ whole. whole ++ 10 ∷ []) front ∙ append_assoc (line_name bytes comma) (44 ∷ line_field bytes comma end) (10 ∷ [])

  -- it is read as a record of its two fields, whatever follows
  pub plain-next : (more : List ℕ) → next_record default_config at.StartRecord [] [] (take (end + 1) bytes ++ more)
      ≡ Some (line_name bytes comma ∷ line_field bytes comma end ∷ [], at.StartRecord, more)
  plain-next more =
      let name = line_name bytes comma in
      let field = line_field bytes comma end in
      let joined : take (end + 1) bytes ++ more ≡ name ++ 44 ∷ (field ++ 10 ∷ more) =
      ap (λ whole. whole ++ more) parted ∙ append_assoc name ((44 ∷ field) ++ 10 ∷ []) more
      ∙ ap (λ tail. name ++ 44 ∷ tail) (append_assoc field (10 ∷ []) more) in
      ap (next_record default_config at.StartRecord [] []) joined
      ∙ first-field name (field ++ 10 ∷ more) name-ordinary
      ∙ second-field field more (name ∷ []) field-ordinary

-- a line feed in front of a record is passed over
pub past-feed : (bytes : List ℕ) → next_record default_config at.StartRecord [] [] (10 ∷ bytes) ≡ next_record default_config at.StartRecord [] [] bytes
unfolding next_record
past-feed bytes = refl

-- a text that begins with another byte than a byte order mark is as it stands
no-mark : (b : ℕ) (bytes : List ℕ) → (b == 0xEF) ≡ false → strip_bom (b ∷ bytes) ≡ b ∷ bytes
unfolding strip_bom
no-mark b [] first = refl
no-mark b (_ ∷ []) first = refl
no-mark b (c ∷ d ∷ bytes) first = rw first refl

pub feed-stays : (bytes : List ℕ) → strip_bom (10 ∷ bytes) ≡ 10 ∷ bytes
feed-stays bytes = no-mark 10 bytes refl

pub first-stays : (bytes : List ℕ) → 0 < length bytes → (get_or bytes 0 0 == 0xEF) ≡ false → strip_bom bytes ≡ bytes
first-stays [] some first = absurd (omega arith)
first-stays (b ∷ bytes) some first = no-mark b bytes first

-- one more record is reached
pub reached-more : (cfg : Config) (s s1 s2 : State) (text left more : List ℕ) (rows : List Row) (row : Row) → Reached cfg s text rows s1 left
    → next_record cfg s1 [] [] left ≡ Some (row, s2, more) → Reached cfg s text (rows ++ row ∷ []) s2 more
unfolding Reached
reached-more cfg s s1 s2 text left more [] row (same, is) next = ((row, s2, more), rw (same, is) next, refl, (refl, refl))
reached-more cfg s s1 s2 text left more (_ ∷ rows) row (p, here, is, further) next =
    (p, here, is, reached-more cfg p.1 s1 s2 p.2 left more rows row further next)
