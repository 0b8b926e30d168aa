-- The words of two different phases differ.
use Rattle.std.proofs.Common.{◌≡◌, ℕ, ◌+◌, ◌*◌, ◌^◌, ◌<◌, refl, ap, arith}
use Rattle.flow_link.specs.declared.phase.LinkEnd.{LinkEnd}
use Rattle.flow_link.specs.declared.phase.LinkEnd.TheVariants.{Plain, Complete, Fault}
use Rattle.flow_link.specs.declared.phase.Phase.{Phase}
use Rattle.flow_link.specs.declared.phase.Phase.TheVariants.{Idle, Posted, Offered, Postponed, Wanted, Given, Opened, Asked, Held, Refused, Ended}
use Rattle.flow_link.specs.Phase.{code_of, id_of, IsPhase, WordsTell}

-- a word has one kind and one number
one_code : (a b i j : ℕ) → i < 2 ^ 59 → j < 2 ^ 59 → a * 2 ^ 59 + i ≡ b * 2 ^ 59 + j → a ≡ b
one_code a b i j low low' e = omega arith

one_number : (a b i j : ℕ) → i < 2 ^ 59 → j < 2 ^ 59 → a * 2 ^ 59 + i ≡ b * 2 ^ 59 + j → i ≡ j
one_number a b i j low low' e = omega arith

number_fits : (phase : Phase) → IsPhase phase → id_of phase < 2 ^ 59
number_fits Idle fits = omega arith
number_fits Refused fits = omega arith
number_fits (Ended Plain) fits = omega arith
number_fits (Ended Complete) fits = omega arith
number_fits (Ended (Fault number)) fits = omega arith
number_fits _ fits = fits.1

ended_code : (how : LinkEnd) → 9 < code_of (Ended how)
ended_code Plain = omega arith
ended_code Complete = omega arith
ended_code (Fault number) = omega arith

-- a phase is told by its kind and its number
same_phase : (first second : Phase) → code_of first ≡ code_of second → id_of first ≡ id_of second → first ≡ second
same_phase Idle Idle kind number = refl
same_phase (Posted i) (Posted j) kind number = ap Posted number
same_phase (Offered i) (Offered j) kind number = ap Offered number
same_phase (Postponed i) (Postponed j) kind number = ap Postponed number
same_phase (Wanted i) (Wanted j) kind number = ap Wanted number
same_phase (Given i) (Given j) kind number = ap Given number
same_phase (Opened i) (Opened j) kind number = ap Opened number
same_phase (Asked i) (Asked j) kind number = ap Asked number
same_phase (Held i) (Held j) kind number = ap Held number
same_phase Refused Refused kind number = refl
same_phase (Ended Plain) (Ended Plain) kind number = refl
same_phase (Ended Complete) (Ended Complete) kind number = refl
same_phase (Ended (Fault i)) (Ended (Fault j)) kind number = ap (λ n. Ended (Fault n)) number
same_phase (Ended Plain) (Ended Complete) kind number = absurd (omega arith)
same_phase (Ended Plain) (Ended (Fault j)) kind number = absurd (omega arith)
same_phase (Ended Complete) (Ended Plain) kind number = absurd (omega arith)
same_phase (Ended Complete) (Ended (Fault j)) kind number = absurd (omega arith)
same_phase (Ended (Fault i)) (Ended Plain) kind number = absurd (omega arith)
same_phase (Ended (Fault i)) (Ended Complete) kind number = absurd (omega arith)
same_phase _ (Ended how) kind number = absurd (omega (arith, ended_code how))
same_phase (Ended how) _ kind number = absurd (omega (arith, ended_code how))
same_phase _ _ kind number = absurd (omega arith)

pub words_tell : WordsTell
words_tell first second fits fits' same =
    same_phase first second
    (one_code (code_of first) (code_of second) _ _ (number_fits first fits) (number_fits second fits') same)
    (one_number (code_of first) (code_of second) _ _ (number_fits first fits) (number_fits second fits') same)
