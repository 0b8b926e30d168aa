-- What one more write adds to what is written, and leaves in front.
use Rattle.std.proofs.Common.{◌≡◌, ◌-◌, ℕ, List, [], ◌++◌, length, length-drop, arith, take, drop, Option, Some, None, refl, ap, sym, ◌∙◌, append_assoc}
use Rattle.std.proofs.lemmas.List.{append-nil, take-append-drop, take_all}
use Rattle.std.specs.Io.KnownBytes.{Appends, Keeps}
use Rattle.flow_report.specs.Written.{StaysInFront}
use Rattle.flow_report.proofs.PrintedGrows.{appends-both}

-- what is appended leaves the front
pub front-of-appends : (old new : Option (List ℕ)) (bytes : List ℕ) → Appends old new bytes → StaysInFront old new
front-of-appends None new bytes appended front begins = absurd (let none = begins.is in cc)
front-of-appends (Some xs) None bytes appended front begins = absurd appended
front-of-appends (Some xs) (Some ys) bytes appended front begins =
    let whole : xs ≡ front ++ begins.rest = let same = begins.is in cc in
    record { rest = begins.rest ++ bytes; is = ap Some (appended ∙ ap (λ all. all ++ bytes) whole ∙ append_assoc front begins.rest bytes) }

-- and so does what is kept
pub front-of-keeps : (old new : Option (List ℕ)) → Keeps old new → StaysInFront old new
front-of-keeps None new kept front begins = absurd (let none = begins.is in cc)
front-of-keeps (Some xs) None kept front begins = absurd kept
front-of-keeps (Some xs) (Some ys) kept front begins = record { rest = begins.rest; is = ap Some kept ∙ begins.is }

-- nothing is appended
pub appends-none : (old : Option (List ℕ)) → Appends old old []
appends-none None = tt
appends-none (Some xs) = sym (append-nil xs)

-- of these bytes all but the rest is written
pub record WroteUpTo (old new : Option (List ℕ)) (bytes rest : List ℕ) : Type 0 where
  pub done : List ℕ
  pub parts : bytes ≡ done ++ rest
  pub appended : Appends old new done

pub wrote-none : (old : Option (List ℕ)) (bytes : List ℕ) → WroteUpTo old old bytes bytes
wrote-none None bytes = record { done = []; parts = refl; appended = tt }
wrote-none (Some xs) bytes = record { done = []; parts = refl; appended = sym (append-nil xs) }

pub wrote-more : (old mid new : Option (List ℕ)) (bytes rest : List ℕ) (count : ℕ) → WroteUpTo old mid bytes rest → Appends mid new (take count rest)
    → WroteUpTo old new bytes (take (length rest - count) (drop count rest))
wrote-more old mid new bytes rest count before more =
    let all : take (length rest - count) (drop count rest) ≡ drop count rest = take_all (length rest - count) (drop count rest) (omega (arith, length-drop count rest)) in
    rw all (record {
      done = before.done ++ take count rest;
      parts = before.parts ∙ ap (λ part. before.done ++ part) (sym (take-append-drop count rest)) ∙ sym (append_assoc before.done (take count rest) (drop count rest));
      appended = appends-both old mid new before.done (take count rest) before.appended more;
    })

pub wrote-same : (old mid new : Option (List ℕ)) (bytes rest : List ℕ) → WroteUpTo old mid bytes rest → Keeps mid new → WroteUpTo old new bytes rest
wrote-same old mid new bytes rest before kept = record { done = before.done; parts = before.parts; appended = appends-same old mid new before.done before.appended kept }
  where
    appends-same : (old mid new : Option (List ℕ)) (part : List ℕ) → Appends old mid part → Keeps mid new → Appends old new part
    appends-same None mid new part appended kept = tt
    appends-same (Some xs) None new part appended kept = absurd appended
    appends-same (Some xs) (Some ys) None part appended kept = absurd kept
    appends-same (Some xs) (Some ys) (Some zs) part appended kept = kept ∙ appended
