-- Steps of the walks of a handle: which of its two states it is in, and how one is made that holds nothing.
use Rattle.std.proofs.Common.{◌≡◌, List, [], ◌∷◌, refl}
use lib.Dec.{T}
use seplogic.Ra.Ura.{Ura}
use mir.Raw.{raw as bare}
use mir.Val.{Val, vstruct, vcons, vnil, has_ty, WT}
use base.Fraction.{full_share}
use base.Fml.{ftrue}
use base.Logic.{SProp, ent, guard, via, snd∗, guard_i}
use types.Logic.{Logic, sem}
use types.Kit.{Item, Goal, Seq, Step, step, ‵, given, ◌$◌, move, drop, use1, learn, fjoin, fpick, fpack, feq_i}
use contract.Monad.{fact_use}
use denote.RattleType.{RattleType, Valss}
use denote.Builtin.{RawPtr}
use denote.Memory.{lone}
use denote.RawPtr.{Ptr, null_ptr, ptr_val, lies_at, Testable}
use denote.Steps.{nothing}
use denote.Struct.Struct.{within}
use denote.Struct.Owning.{shape, to}
use Rattle.core.proofs.alloc.Calls.{Fits, α}
use Rattle.core.proofs.atomic.Steps.{Ptr-Good}
use Rattle.std_alloc.proofs.ResultValues.{and_tt}
use Rattle.std.specs.Box.Ownership.{box_owns}
use Rattle.std.specs.declared.alloc.Global.{Global}
use Rattle.std.specs.declared.option.Option.{Option}
use Rattle.std.specs.declared.option.Option.TheVariants.{None, Some}
use Rattle.std.proofs.GlobalToken.{dealloc_token-Testable}
use Rattle.std_heap.specs.contracts.Global as heap
use Rattle.std_heap.specs.contracts.GlobalAllocator.TheImpl.{ghosts}
use Rattle.std_alloc.proofs.BoxSteps.Form.{box_ty}
use Rattle.bevelrose_c.specs.Owned.{handle_owns}
use Rattle.bevelrose_c.specs.contracts.handle.Handle as handle
use Rattle.bevelrose_c.proofs.AsBox.{E}

abbrev pub null_word : Val → Val
null_word h = vstruct (vcons (ptr_val null_ptr) (vcons h vnil))

pub null_typed : (h : Val) → Fits E.al h → T (has_ty (box_ty E) (null_word h)) × WT (null_word h)
null_typed h fits = (and_tt (has_ty (α E.al) h) fits.0, ((Ptr-Good null_ptr).1, (fits.1, tt)))

module _ (R : RattleType) (a : Global) {M : Type 1} {𝓤 : Ura M} (𝓛 : Logic 𝓤) where
  -- what may be freed may be compared with null
  pub may_test : (p : Ptr) (x : R.Denot) → ent 𝓤 (sem 𝓛 (box_owns (ghosts.dealloc_token a) R p x)) (guard 𝓤 (Testable p) (sem 𝓛 (box_owns (ghosts.dealloc_token a) R p x)))
  may_test p x = let B : SProp 𝓤 = sem 𝓛 (box_owns (ghosts.dealloc_token a) R p x) in
      fact_use 𝓤 (Testable p) (via 𝓤 _ (snd∗ 𝓤 (sem 𝓛 (lies_at R full_share p x)) (sem 𝓛 (ghosts.dealloc_token a (bare (lone R.mir)) p))) (dealloc_token-Testable 𝓛 a (bare (lone R.mir)) p)) (guard_i 𝓤 (Testable p) B)

module _ (R : RattleType) (a : Global) {M : Type 1} {𝓤 : Ura M} {𝓛 : Logic 𝓤} {K : Type 0} {Γ : List (Item 𝓤)} {G : Goal 𝓤 𝓛.H} where
  pub either : K → (p : Ptr) (held : Option R.Denot) → (held ≡ None → p ≡ null_ptr → Seq K 𝓛 Γ G)
      → ((x : R.Denot) → held ≡ Some x → Testable p → Seq K 𝓛 (‵ (box_owns (ghosts.dealloc_token a) R p x) ∷ Γ) G)
      → Seq K 𝓛 (‵ (handle_owns R a p held) ∷ Γ) G
  either t p None none one = fpick t (λ e. drop t $ none refl e)
  either t p (Some x) none one =
      use1 𝓛 (given (Testable p) (‵ (box_owns (ghosts.dealloc_token a) R p x))) (may_test R a 𝓛 p x) $ learn t (λ tests. one x refl tests)

module _ {M : Type 1} {𝓤 : Ura M} {𝓛 : Logic 𝓤} {K : Type 0} {Γ : List (Item 𝓤)} {G : Goal 𝓤 𝓛.H} where
  -- a handle that holds nothing, of what its allocator owns
  pub none_in : K → (a : Global) (h : Val)
      → Step K 𝓛 (‵ (handle.the_row.own_val (record { at = null_ptr; alloc = a; held = None }) (null_word h ∷ [])) ∷ Γ) G (‵ (heap.the_row.own_val a (h ∷ [])) ∷ Γ) G
  none_in t a h = step (λ s. let w : Val = null_word h in
      nothing t $ fpack t (null_ptr ≡ null_ptr) (λ _. ftrue) refl $ nothing t $ move t (2 ∷ 0 ∷ []) $ fjoin t $
      feq_i t (List Val) (ptr_val null_ptr ∷ []) (ptr_val null_ptr ∷ []) refl $ fjoin t $ feq_i t (List Val) (w ∷ []) (w ∷ []) refl $ fjoin t $
      fpack t (Valss (RawPtr ∷ heap.the_row ∷ [])) (within (shape handle.the_type) (to handle.the_type (record { at = null_ptr; alloc = a; held = None })) (w ∷ [])) (ptr_val null_ptr ∷ [], (h ∷ [], tt)) $ fjoin t $ s)
