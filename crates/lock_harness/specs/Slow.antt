-- What the tokens of a lock that lets its users wait mean.
use Rattle.std.specs.Prelude.{◌≡◌, ℕ, ◌+◌, true, false}
use Rattle.lock_rules.specs.Meanings.{Waiting, Holder as Meaning}
use Rattle.lock_rules.specs.Tag.{leaf}
use Rattle.lock_rules.specs.declared.step.Answer.TheVariants.{Yes}
use Rattle.lock_harness.specs.declared.parcel.Parcel.{Parcel}
use Rattle.lock_harness.specs.declared.slow.SlowLeave.{SlowLeave}
use Rattle.lock_harness.specs.declared.slow.SlowLeave.TheVariants.{Waits, Leaves}

-- a token that was told `Not` so many times beside those that it records itself, and was not shown the word that it waits for
abbrev pub late_queue : Waiting → ℕ → Waiting
late_queue w missed = record w { loads = w.loads + missed; ready = false }

module _ {H L : Type 0} (holder : H → Meaning Parcel) (waiting : L → Waiting) where
  abbrev pub late_leave : SlowLeave H L → Waiting
  late_leave (Waits held missed) = record {
    place = (holder held).place;
    entries = 0;
    loads = (holder held).loads + missed;
    ready = false;
    preceded = false;
    followed = false;
  }
  late_leave (Leaves leave missed) = late_queue (waiting leave) missed

-- the value that is still in hand may be put back
module _ {H L : Type 0} (holder : H → Meaning Parcel) (rests : L → Type 0) where
  abbrev pub MayLeave : SlowLeave H L → Type 0
  MayLeave (Waits held missed) = ((holder held).place.tag ≡ leaf 0) × ((holder held).value.parked ≡ true → (holder held).tested ≡ Yes)
  MayLeave (Leaves leave missed) = rests leave
