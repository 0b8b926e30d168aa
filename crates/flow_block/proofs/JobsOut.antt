-- What comes out when results are put one after another, of what is set aside for all of them, is what comes out at once.
use Rattle.std.proofs.Common.{◌≡◌, ℕ, ◌+◌, ◌-◌, ◌<◌, true, false, List, [], ◌∷◌, ◌++◌, length, drop, Some, None, Ok, Err, refl, ap, sym, ◌∙◌, arith, length-append}
use Rattle.flow_value.specs.declared.value.Value.{Value}
use Rattle.flow_link.specs.declared.draft.BlockKind.{BlockKind}
use Rattle.flow_link.specs.declared.draft.BlockKind.TheVariants.{Buffer, Action}
use Rattle.flow_link.specs.Plan.{has_work}
use Rattle.flow_intake.specs.Port.{PortState}
use Rattle.flow_outlet.specs.Outlet.{OutletState}
use Rattle.flow_block.specs.Block.{BlockState, held_by, keeps_results, yields_all}
use Rattle.flow_block.specs.BlockFits.{BlockFits}
use Rattle.flow_block.specs.Jobs.{Slot, comes_out}
use Rattle.flow_block.specs.JobsOut.{is_front_made, front_fault, fails_where, uses_aside, puts_front, MayPutOut, puts_rest}
use Rattle.flow_block.proofs.ResultsKept.{keeps_goes, ports_stay, held_then}

-- What is set aside

pub aside_fits : {ports : List PortState} {exits : OutletState} {copied : ℕ} → BlockFits ports exits copied → (spare : ℕ)
    → BlockFits ports (record exits { spare = spare }) copied
aside_fits fits spare = record { room = fits.room; few = fits.few }

uses_none : (block : BlockState) → uses_aside 0 block ≡ block
uses_none block =
    let same : block.exits.spare - 0 ≡ block.exits.spare = omega arith in
    ap (λ (spare : ℕ). record block { exits = record block.exits { spare = spare } }) same

uses_both : (first then : ℕ) (block : BlockState) → uses_aside then (uses_aside first block) ≡ uses_aside (first + then) block
uses_both first then block =
    let same : block.exits.spare - first - then ≡ block.exits.spare - (first + then) = omega arith in
    ap (λ (spare : ℕ). record block { exits = record block.exits { spare = spare } }) same

-- what is kept of a result is the same, whatever is set aside
keeps_aside : (kind : BlockKind) (values : List Value) (count : ℕ) (block : BlockState) → has_work kind ≡ true
    → keeps_results kind values (uses_aside count block) ≡ uses_aside count (keeps_results kind values block)
keeps_aside Action values count block works = refl
keeps_aside Buffer values count block works = absurd (cc)
keeps_aside _ [] count block works = refl
keeps_aside _ (value ∷ values) count block works = refl

slots_then : (kind : BlockKind) (values : List Value) (block : BlockState) → has_work kind ≡ true
    → (keeps_results kind values block).jobs.slots ≡ drop 1 block.jobs.slots
slots_then Action values block works = refl
slots_then Buffer values block works = absurd (cc)
slots_then _ [] block works = refl
slots_then _ (value ∷ values) block works = refl

spare_then : (kind : BlockKind) (values : List Value) (block : BlockState)
    → (keeps_results kind values block).exits.spare ≡ block.exits.spare
spare_then Action values block = refl
spare_then _ [] block = refl
spare_then _ (value ∷ values) block = refl

-- One result after another

abbrev rest_of : BlockState → BlockState
rest_of block = puts_rest block.jobs.slots block

step : (slots : List Slot) (block : BlockState) → block.jobs.slots ≡ slots → has_work block.kind ≡ true
    → is_front_made slots ≡ true → rest_of (puts_front slots block) ≡ puts_rest slots block
step [] block same works made = absurd (cc)
step (None ∷ slots) block same works made = absurd (cc)
step (Some (Err number) ∷ slots) block same works made = absurd (cc)
step (Some (Ok values) ∷ slots) block same works made =
    let kept = keeps_results block.kind values block in
    let then : kept.jobs.slots ≡ slots = slots_then block.kind values block works ∙ ap (drop 1) same in
    let count : length values + length (comes_out slots) ≡ length (values ++ comes_out slots) =
    omega (arith, length-append values (comes_out slots)) in
    ap (λ (slots : List Slot). puts_rest slots (uses_aside (length values) kept)) then
    ∙ ap (yields_all slots) (uses_both (length values) (length (comes_out slots)) kept)
    ∙ ap (λ (count : ℕ). yields_all slots (uses_aside count kept)) count
    ∙ ap (yields_all slots) (sym (keeps_aside block.kind values (length (values ++ comes_out slots)) block works))

pub next_out : (block : BlockState) → has_work block.kind ≡ true → is_front_made block.jobs.slots ≡ true
    → rest_of (puts_front block.jobs.slots block) ≡ rest_of block
next_out block works made = step block.jobs.slots block refl works made

pub nothing_put : (slots : List Slot) (block : BlockState) → is_front_made slots ≡ false → puts_front slots block ≡ block
nothing_put [] block none = refl
nothing_put (None ∷ slots) block none = refl
nothing_put (Some (Err number) ∷ slots) block none = refl
nothing_put (Some (Ok values) ∷ slots) block none = absurd (cc)

pub last_out : (slots : List Slot) (block : BlockState) → is_front_made slots ≡ false
    → puts_rest slots block ≡ fails_where (front_fault slots) block
last_out [] block none = uses_none block
last_out (None ∷ slots) block none = uses_none block
last_out (Some (Err number) ∷ slots) block none = ap (fails_where (Some number)) (uses_none block)
last_out (Some (Ok values) ∷ slots) block none = absurd (cc)

then_ready : (slots : List Slot) (held : List Value) (block : BlockState) → block.jobs.slots ≡ slots → held_by block ≡ held
    → is_front_made slots ≡ true → MayPutOut block → MayPutOut (puts_front slots block)
then_ready [] held block same holds made may = absurd (cc)
then_ready (None ∷ slots) held block same holds made may = absurd (cc)
then_ready (Some (Err number) ∷ slots) held block same holds made may = absurd (cc)
then_ready (Some (Ok values) ∷ slots) [] block same holds made may =
    absurd (omega (arith, may.held, ap length same, ap length holds))
then_ready (Some (Ok values) ∷ slots) (value ∷ rest) block same holds made may =
    let goes = keeps_goes block.kind values block in
    let kept = keeps_results block.kind values block in
    let then : kept.jobs.slots ≡ slots = slots_then block.kind values block may.works ∙ ap (drop 1) same in
    let left : held_by kept ≡ rest = held_then block.kind values block value rest may.alone holds in
    record {
      alone = ports_stay block.kind values block ∙ may.alone;
      works = ap has_work goes.kind ∙ may.works;
      gives = λ records. may.gives (sym goes.kind ∙ records);
      held = omega (arith, may.held, ap length same, ap length holds, ap length then, ap length left);
      aside = omega (
        arith,
        may.aside,
        ap (λ (slots : List Slot). length (comes_out slots)) same,
        ap (λ (slots : List Slot). length (comes_out slots)) then,
        spare_then block.kind values block,
        length-append values (comes_out slots),
      );
    }

pub next_ready : (block : BlockState) → is_front_made block.jobs.slots ≡ true → MayPutOut block
    → MayPutOut (puts_front block.jobs.slots block)
next_ready block made may = then_ready block.jobs.slots (held_by block) block refl refl made may

-- fewer results are left
pub fewer_left : (slots : List Slot) (block : BlockState) → block.jobs.slots ≡ slots → has_work block.kind ≡ true
    → is_front_made slots ≡ true → length (puts_front slots block).jobs.slots < length slots
fewer_left [] block same works made = absurd (cc)
fewer_left (None ∷ slots) block same works made = absurd (cc)
fewer_left (Some (Err number) ∷ slots) block same works made = absurd (cc)
fewer_left (Some (Ok values) ∷ slots) block same works made =
    omega (arith, ap length (slots_then block.kind values block works ∙ ap (drop 1) same))
