-- What a handle owns: nothing, and then its pointer is null, or what a box of the network would.
use Rattle.std.specs.Prelude.{◌≡◌}
use Rattle.std.specs.declared.option.Option.{Option}
use Rattle.std.specs.declared.option.Option.TheVariants.{None, Some}
use base.Fml.{Fml, ftrue, fex}
use denote.RattleType.{RattleType}
use denote.RawPtr.{Ptr, null_ptr}
use Rattle.std.specs.declared.alloc.Global.{Global}
use Rattle.std.specs.Box.Ownership.{box_owns}
use Rattle.std_heap.specs.contracts.GlobalAllocator.TheImpl.{ghosts}

module _ (R : RattleType) (alloc : Global) (at : Ptr) where
  abbrev pub handle_owns : Option R.Denot → Fml
  handle_owns None = fex (at ≡ null_ptr) (λ _. ftrue)
  handle_owns (Some value) = box_owns (ghosts.dealloc_token alloc) R at value
