-- What a block says of how it ends, port by port and of itself, and what of that stays where a port or its exits change.
use Rattle.std.proofs.Common.{◌≡◌, ℕ, ◌<◌, leb, ltb, ◌⊎◌, cond, not, ◌&&◌, ◌||◌, Bool, true, false, List, [], ◌∷◌, length, set, map, Option, Some, None, is_some, Result, refl, ap, sym, ◌∙◌, inl, inr, ⊎_elim, arith, subst, ap₂}
use Rattle.std.proofs.lemmas.Bool.{and_from, or_left, or_right, leb-false, lt-ltb}
use Rattle.std.proofs.lemmas.List.{length-map, length-set}
use Rattle.flow_value.specs.declared.value.Value.{Value}
use Rattle.flow_link.specs.declared.draft.BlockKind.{BlockKind}
use Rattle.flow_link.specs.declared.trace.Mark.{Mark}
use Rattle.flow_link.specs.declared.trace.Outcome.{Outcome}
use Rattle.flow_link.specs.Layout.{Layout}
use Rattle.flow_link.specs.Lists.{every, some, below}
use Rattle.flow_link.specs.Trace.{has_complete, has_fault, has_ended, is_done, took}
use Rattle.flow_intake.specs.Port.{EndState, PortState, stage_at as port_stage, fresh_end, fresh_port}
use Rattle.flow_outlet.specs.Outlet.{OutletState, is_empty, is_at_rest}
use Rattle.flow_block.specs.Block.{BlockState, port_in, port_at, held_by, is_join}
use Rattle.flow_block_law.specs.NodeLaw.{EndsLaw, has_made_all, is_fault_seen, outcome_in, have_completed, has_its_message}
use Rattle.flow_block.specs.Peeks.{holds_nothing}
use Rattle.flow_link.specs.Plan.{is_write_once}
use Rattle.flow_block_law.proofs.FaultsSeen.{sees_at}
use Rattle.flow_block_law.proofs.JournalTells.{goes_on, not_faulted_so}
use Rattle.flow_group.specs.Tuple.{has_tuple}
use Rattle.flow_block_law.proofs.PortEnds.{PortEnds, StageGoes, end_moves, completes_by, completes_tells}
use Rattle.flow_block.proofs.PortsChange.{kept_at_one, each_after_one}
use Rattle.flow_link.proofs.TestsTell.{some_set, every_set, some_map, every_map}
use Rattle.flow_block_law.proofs.Joins.{tuple_at_one}
use Rattle.flow_block_law.proofs.GroupPorts.{waiting_at_one}
use Rattle.flow_block.specs.Groups.{has_group_at, waiting_in_all}
use Rattle.flow_block_law.specs.GroupsLaw.{are_complete}
use Rattle.flow_link.specs.declared.trace.Outcome.TheVariants as outcome

pub record BlockEnds (kind : BlockKind) (made_all : Bool) (ports : List PortState) (exits : OutletState) (fault : Option ℕ)
    (stopped : Option Outcome) (journal : List Mark) : Type 0 where
  pub stopped_is : stopped ≡ outcome_in journal
  pub at_rest : is_some stopped ≡ true → is_at_rest exits ≡ true
  pub done_empty : stopped ≡ Some outcome.Done → (holds_nothing ports ≡ true) × (exits.left ≡ [])
  pub done_complete : is_done journal ≡ true → have_completed kind (length ports) journal ≡ true
  pub fault_cause : (number : ℕ) → has_fault number journal ≡ true
      → (fault ≡ Some number) ⊎ (some (λ (port : PortState). sees_at number port) ports ≡ true)
  pub faulted_by : (number : ℕ) → stopped ≡ Some (outcome.Faulted number)
      → (fault ≡ Some number) ⊎ ((fault ≡ None) × (made_all ≡ true))

pub made_all_same : (block after : BlockState) (journal later : List Mark) → after.kind ≡ block.kind → after.size ≡ block.size
    → held_by after ≡ held_by block → holds_nothing after.ports ≡ holds_nothing block.ports
    → has_tuple after.ports ≡ has_tuple block.ports
    → has_group_at block.size (are_complete (length after.ports) later) after.ports
    ≡ has_group_at block.size (are_complete (length block.ports) journal) block.ports
    → has_complete 0 later ≡ has_complete 0 journal → has_made_all after later ≡ has_made_all block journal
made_all_same block after journal later kind size held holds tuple group complete =
    rw (kind, size, held, holds, tuple, group, complete) refl

-- as many wait, and the same ports have completed
pub group_as : (size : ℕ) (journal : List Mark) (ports after : List PortState) → length after ≡ length ports
    → waiting_in_all after ≡ waiting_in_all ports
    → has_group_at size (are_complete (length after) journal) after
    ≡ has_group_at size (are_complete (length ports) journal) ports
group_as size journal ports after count waits =
    ap₂ (λ (many : ℕ) (ended : Bool). ltb 0 many && (leb size many || ended)) waits (ap (λ (n : ℕ). are_complete n journal) count)

-- the same ports have completed
pub every_same : (test other : ℕ → Bool) (ps : List ℕ) → ((p : ℕ) → test p ≡ other p) → every test ps ≡ every other ps
every_same test other [] same = refl
every_same test other (p ∷ ps) same = rw (same p, every_same test other ps same) refl

some_same : (test other : ℕ → Bool) (ps : List ℕ) → ((p : ℕ) → test p ≡ other p) → some test ps ≡ some other ps
some_same test other [] same = refl
some_same test other (p ∷ ps) same = rw (same p, some_same test other ps same) refl

pub same_completed : (kind : BlockKind) (count : ℕ) (journal later : List Mark)
    → ((p : ℕ) → has_complete p later ≡ has_complete p journal) → took later ≡ took journal
    → have_completed kind count journal ≡ true
    → have_completed kind count later ≡ true
same_completed kind count journal later same taken completed =
    ap₂ (λ (one all : Bool). cond (is_join kind) one all)
    (some_same (λ p. has_complete p later) (λ p. has_complete p journal) (below count) same)
    (ap₂ (λ (all its_message : Bool). all || its_message)
    (every_same (λ p. has_complete p later) (λ p. has_complete p journal) (below count) same)
    (ap (λ (values : List Value). is_write_once kind && not (is_empty values)) taken))
    ∙ completed

-- a batch that has no group left to make
pub no_group_left : (held : List Value) (size : ℕ) (enough ended complete : Bool) → 0 < size → leb size (length held) ≡ enough
    → (ended ≡ false → complete ≡ false) → not (not (is_empty held) && (enough || ended)) ≡ true
    → (ltb (length held) size && (not complete || is_empty held)) ≡ true
no_group_left [] size enough ended complete some here unended none =
    and_from (ltb 0 size) (not complete || true) (lt-ltb 0 size some) (or_right (not complete) true refl)
no_group_left (value ∷ held) size true ended complete some here unended none = absurd (cc)
no_group_left (value ∷ held) size false true complete some here unended none = absurd (cc)
no_group_left (value ∷ held) size false false complete some here unended none =
    let short = leb-false size (length (value ∷ held)) here in
    and_from (ltb (length (value ∷ held)) size) (not complete || false) (lt-ltb (length (value ∷ held)) size (omega (arith, short)))
    (or_left (not complete) false (ap not (unended refl)))

-- one that goes on has no end to account for
pub going_ends : (kind : BlockKind) (made_all : Bool) (ports : List PortState) (exits : OutletState) (fault : Option ℕ) (stopped : Option Outcome)
    (journal : List Mark)
    → stopped ≡ None → outcome_in journal ≡ None → BlockEnds kind made_all ports exits fault stopped journal
going_ends kind made_all ports exits fault stopped journal none going = record {
  stopped_is = none ∙ sym going;
  at_rest = λ is. let never : false ≡ true = ap is_some (sym none) ∙ is in absurd (cc);
  done_empty = λ is. let never = sym none ∙ is in absurd (cc);
  done_complete = λ is. let never = sym (goes_on journal going).1 ∙ is in absurd (cc);
  fault_cause = λ number is. let never = sym (not_faulted_so number journal going) ∙ is in absurd (cc);
  faulted_by = λ number is. let never = sym none ∙ is in absurd (cc);
}

-- its exits change
exits_move : (kind : BlockKind) (made_all : Bool) (ports : List PortState) (exits after : OutletState) (fault : Option ℕ) (stopped : Option Outcome)
    (journal : List Mark)
    → BlockEnds kind made_all ports exits fault stopped journal → after.left ≡ exits.left
    → (is_at_rest exits ≡ true → is_at_rest after ≡ true)
    → BlockEnds kind made_all ports after fault stopped journal
exits_move kind made_all ports exits after fault stopped journal law left rest = record {
  stopped_is = law.stopped_is;
  at_rest = λ is. rest (law.at_rest is);
  done_empty = λ is. let empty = law.done_empty is in (empty.0, left ∙ empty.1);
  done_complete = law.done_complete;
  fault_cause = law.fault_cause;
  faulted_by = law.faulted_by;
}

-- one port changes, and holds what it held
port_moves : (kind : BlockKind) (made_all : Bool) (ports : List PortState) (exits : OutletState) (fault : Option ℕ) (stopped : Option Outcome)
    (journal : List Mark) (p : ℕ) (port : PortState)
    → BlockEnds kind made_all ports exits fault stopped journal → port.waiting ≡ (port_in ports p).waiting
    → ((number : ℕ) → sees_at number (port_in ports p) ≡ true → sees_at number port ≡ true)
    → BlockEnds kind made_all (set ports p port) exits fault stopped journal
port_moves kind made_all ports exits fault stopped journal p port law waiting seen =
    let holds =
    every_set (λ (q : PortState). is_empty q.waiting) ports p port (fresh_port None) (ap is_empty waiting) in
    record {
      stopped_is = law.stopped_is;
      at_rest = law.at_rest;
      done_empty = λ is. let empty = law.done_empty is in (holds ∙ empty.0, empty.1);
      done_complete = λ is. rw (length-set ports p port) (law.done_complete is);
      fault_cause = λ number is.
          ⊎_elim (λ own. inl own)
          (λ there. inr
          (some_set (λ (q : PortState). sees_at number q) ports p port (fresh_port None) (seen number) there))
          (law.fault_cause number is);
      faulted_by = law.faulted_by;
    }

-- all ports change, and hold what they held
pub ports_move : (kind : BlockKind) (made_all : Bool) (ports : List PortState) (exits : OutletState) (fault : Option ℕ) (stopped : Option Outcome)
    (journal : List Mark) (change : PortState → PortState) → ((port : PortState) → (change port).waiting ≡ port.waiting)
    → ((number : ℕ) (port : PortState) → sees_at number (change port) ≡ sees_at number port)
    → BlockEnds kind made_all ports exits fault stopped journal → BlockEnds kind made_all (map change ports) exits fault stopped journal
ports_move kind made_all ports exits fault stopped journal change waits seen law =
    let holds = every_map (λ (q : PortState). is_empty q.waiting) change ports (λ q. ap is_empty (waits q)) in
    record {
      stopped_is = law.stopped_is;
      at_rest = law.at_rest;
      done_empty = λ is. let empty = law.done_empty is in (holds ∙ empty.0, empty.1);
      done_complete = λ is. rw (length-map ports change) (law.done_complete is);
      fault_cause = λ number is.
          ⊎_elim (λ own. inl own)
          (λ there. inr (some_map (λ (q : PortState). sees_at number q) change ports (seen number) ∙ there))
          (law.fault_cause number is);
      faulted_by = law.faulted_by;
    }

module _ {W : Type 0} (layout : Layout W) (meaning : ℕ → Value → Result (List Value) ℕ) (b : ℕ) where
  abbrev Ends : BlockState → List Mark → Type 0
  Ends block journal = EndsLaw layout meaning b block journal

  -- what the law says of one port
  abbrev PortEndsBy : BlockKind → Option ℕ → List Mark → ℕ → PortState → Type 0
  PortEndsBy kind fault journal p port =
      PortEnds fault (has_ended p journal) (completes_by kind p journal) port.refusing port.ends

  pub each_port : (block : BlockState) (journal : List Mark) → Ends block journal
      → (p : ℕ) → p < length block.ports → PortEndsBy block.kind block.fault journal p (port_in block.ports p)
  each_port block journal law p small = record {
    ended_is = law.ended_is p small;
    failed = λ is. law.failed is p small;
    own_fault = law.own_fault p small;
    refused = λ k there. law.refused p k small there;
    numbered = λ k there. law.numbered p k small there;
    complete_cause = λ is.
        let tells = completes_tells (has_complete p journal) (has_its_message block.kind journal) is in
        law.complete_cause p small tells.0 tells.1;
  }

  pub whole : (block : BlockState) (journal : List Mark) → Ends block journal
      → BlockEnds block.kind (has_made_all block journal) block.ports block.exits block.fault block.stopped journal
  whole block journal law = record {
    stopped_is = law.stopped_is;
    at_rest = law.at_rest;
    done_empty = law.done_empty;
    done_complete = law.done_complete;
    fault_cause = law.fault_cause;
    faulted_by = law.faulted_by;
  }

  pub both : (block : BlockState) (journal : List Mark)
      → ((p : ℕ) → p < length block.ports → PortEndsBy block.kind block.fault journal p (port_in block.ports p))
      → BlockEnds block.kind (has_made_all block journal) block.ports block.exits block.fault block.stopped journal
      → Ends block journal
  both block journal ports law = record {
    stopped_is = law.stopped_is;
    ended_is = λ p small. (ports p small).ended_is;
    failed = λ is p small. (ports p small).failed is;
    own_fault = λ p small. (ports p small).own_fault;
    refused = λ p k small. (ports p small).refused k;
    numbered = λ p k small. (ports p small).numbered k;
    at_rest = law.at_rest;
    done_empty = law.done_empty;
    done_complete = law.done_complete;
    complete_cause = λ p small is none.
        (ports p small).complete_cause
        (and_from (has_complete p journal) (not (has_its_message block.kind journal)) is (ap not none));
    fault_cause = law.fault_cause;
    faulted_by = law.faulted_by;
  }

  -- an end of a link into it moves
  pub moves_in : (block : BlockState) (journal : List Mark) → Ends block journal
      → (p k : ℕ) (port : PortState) (end : EndState)
      → p < length block.ports → port.refusing ≡ (port_at p block).refusing
      → port.ends ≡ set (port_at p block).ends k end
      → port.waiting ≡ (port_at p block).waiting
      → StageGoes block.fault (port_at p block).refusing (port_stage k (port_at p block)) end.stage
      → Ends (record block { ports = set block.ports p port }) journal
  moves_in block journal law p k port end small refusing ends waiting goes =
      let old = port_at p block in
      let holds = every_set (λ (q : PortState). is_empty q.waiting) block.ports p port (fresh_port None) (ap is_empty waiting) in
      let held = kept_at_one (λ (q : PortState). q.waiting) block.ports p 0 port waiting in
      let tuple = tuple_at_one block.ports p port waiting in
      let group = group_as block.size journal block.ports (set block.ports p port) (length-set block.ports p port)
      (waiting_at_one block.ports p port waiting) in
      let made = made_all_same block (record block { ports = set block.ports p port }) journal journal refl refl held holds tuple
      group refl in
      both (record block { ports = set block.ports p port }) journal
      (each_after_one (PortEndsBy block.kind block.fault journal) block.ports p port
      (λ there. rw (refusing, ends)
      (end_moves block.fault (has_ended p journal) (completes_by block.kind p journal) old.refusing old.ends k end
      (each_port block journal law p small) goes))
      (λ q there other. each_port block journal law q there))
      (subst (λ (all : Bool). BlockEnds block.kind all (set block.ports p port) block.exits block.fault block.stopped journal) (sym made)
      (port_moves block.kind (has_made_all block journal) block.ports block.exits block.fault block.stopped journal p port (whole block journal law) waiting
      (λ number is. rw ends
      (some_set (λ (e : EndState). is_fault_seen number e) old.ends k end (fresh_end 0) (goes.fault_kept number) is))))

  -- its exits change
  pub exits_go : (block : BlockState) (journal : List Mark) → Ends block journal → (exits : OutletState)
      → exits.left ≡ block.exits.left
      → (is_at_rest block.exits ≡ true → is_at_rest exits ≡ true) → Ends (record block { exits = exits }) journal
  exits_go block journal law exits left rest =
      both (record block { exits = exits }) journal (each_port block journal law)
      (exits_move block.kind (has_made_all block journal) block.ports block.exits exits block.fault block.stopped journal (whole block journal law) left rest)

  pub exits_going : (block : BlockState) (journal : List Mark) → Ends block journal → (exits : OutletState)
      → block.stopped ≡ None
      → Ends (record block { exits = exits }) journal
  exits_going block journal law exits none =
      both (record block { exits = exits }) journal (each_port block journal law)
      (going_ends block.kind _ block.ports exits block.fault block.stopped journal none (sym law.stopped_is ∙ none))
