-- One record more behind those that were written of a row.
use Rattle.std.proofs.Common.{◌≡◌, ◌<◌, ◌≤◌, ◌+◌, ℕ, List, [], ◌∷◌, ◌++◌, length, take, get_or, flat_map, ap, sym, ◌∙◌, append_assoc, Option, Some, None, subst}
use Rattle.std.proofs.lemmas.List.{append-nil, take_more, take_all}
use Rattle.std.proofs.lemmas.Grind.{flat_map-append}
use Rattle.std.specs.Io.KnownBytes.{Appends}
use Rattle.csv.specs.Writing.{row_text, default_writer}
use Rattle.flow_feed.specs.declared.choice.Column.{Column}
use Rattle.flow_feed.specs.declared.choice.Way.{Way}
use Rattle.flow_feed.specs.Sends.{record_fields, records_text}

-- two parts, one after another
appends-both : (old mid new : Option (List ℕ)) (front back : List ℕ) → Appends old mid front → Appends mid new back → Appends old new (front ++ back)
appends-both None mid new front back f b = tt
appends-both (Some xs) None new front back f b = absurd f
appends-both (Some xs) (Some ys) None front back f b = absurd b
appends-both (Some xs) (Some ys) (Some zs) front back f b = b ∙ ap (λ part. part ++ back) f ∙ append_assoc xs front back

-- the texts of one element more
texts-more : {A : Type 0} (text : A → List ℕ) (all : List A) (at : ℕ) (item : A) → at < length all → item ≡ get_or all at item
    → flat_map text (take (at + 1) all) ≡ flat_map text (take at all) ++ text item
texts-more text all at item within is =
    ap (flat_map text) (take_more all at item within)
    ∙ flat_map-append text (take at all) (get_or all at item ∷ [])
    ∙ ap (λ last. flat_map text (take at all) ++ last) (append-nil (text (get_or all at item)))
    ∙ ap (λ last. flat_map text (take at all) ++ text last) (sym is)

module _ (fields : List (List ℕ)) (digits : List ℕ) (key : Option Column) (ways : List Way) (at : ℕ) (old new : Option (List ℕ)) where
  -- with the record for one input more
  pub sends_more : (way : Way) (mid : Option (List ℕ)) → at < length ways → way ≡ get_or ways at way
      → Appends old mid (records_text fields digits key (take at ways))
      → Appends mid new (row_text default_writer (record_fields fields digits key way))
      → Appends old new (records_text fields digits key (take (at + 1) ways))
  sends_more way mid within is before last =
      let text = λ (way : Way). row_text default_writer (record_fields fields digits key way) in
      subst (λ (written : List ℕ). Appends old new written) (sym (texts-more text ways at way within is))
      (appends-both old mid new (records_text fields digits key (take at ways)) (text way) before last)

  -- those for all inputs
  pub sends_all : length ways ≤ at → Appends old new (records_text fields digits key (take at ways))
      → Appends old new (records_text fields digits key ways)
  sends_all over written =
      subst (λ (sent : List Way). Appends old new (records_text fields digits key sent)) (take_all at ways over) written
