-- What making leaves in the handles. `held` is what each of them has.
use Rattle.std.specs.Prelude.{◌≡◌, ◌^◌, ◌<◌, ◌∷◌, [], ◌++◌, List, length}
use Rattle.std.specs.List.{All}
use Rattle.std.specs.declared.option.Option.{Option}
use Rattle.std.specs.declared.option.Option.TheVariants.{None, Some}
use Rattle.std.specs.declared.alloc.Global.{Global}
use Rattle.std_alloc.specs.declared.boxed.Box.{Box}
use Rattle.lock_rules.specs.Tag.{Tag}
use Rattle.lock_callers.specs.Seen.{Seen, idle_of}
use Rattle.lock_handles.specs.declared.any.AnyCaller.{AnyCaller}
use Rattle.lock_handles.specs.declared.making.Made.{Made}
use Rattle.lock_handles.specs.declared.making.Made.TheVariants.{Done, NoMemory, InUse, Refused}

-- a lock has a caller, and fewer than 2^32
abbrev pub MayMake : List (Option AnyCaller) → Type 0
MayMake held = (0 < length held) × (length held < 2 ^ 32)

abbrev pub AreEmpty : List (Option AnyCaller) → Type 0
AreEmpty = All (λ (h : Option AnyCaller). h ≡ None)

-- each has a caller, all of one lock of this kind, and all idle
abbrev pub AreFresh : (Seen → AnyCaller) → List (Option AnyCaller) → Type 0
AreFresh kind held = (lock : Tag) × All (λ (h : Option AnyCaller). h ≡ Some (kind (idle_of lock))) held

-- a box with this caller stands behind the others
abbrev pub IsAdded : AnyCaller → List (Box AnyCaller Global) → List (Box AnyCaller Global) → Type 0
IsAdded caller old new = (b : Box AnyCaller Global) × (new ≡ old ++ b ∷ []) × (b.value ≡ caller)

-- each answer with its cause; at any other than done nothing changes
abbrev pub Makes : (Seen → AnyCaller) → List (Option AnyCaller) → List (Option AnyCaller) → Made → Type 0
Makes kind old new Done = MayMake old × AreEmpty old × (length new ≡ length old) × AreFresh kind new
Makes kind old new NoMemory = MayMake old × AreEmpty old × (new ≡ old)
Makes kind old new InUse = MayMake old × (AreEmpty old → ⊥) × (new ≡ old)
Makes kind old new Refused = (MayMake old → ⊥) × (new ≡ old)
