-- What reads took.
use Rattle.std.specs.Prelude.{◌≡◌, ℕ, ◌+◌, ◌≤◌, List, ◌++◌, length}
use Rattle.std.specs.declared.option.Option.{Option}
use Rattle.edge_io.specs.Counts.{RisesBy}
use Rattle.edge_io.specs.Contents.{Loses}

-- the bytes so far were made longer by the next `count` bytes of what was left
pub record ReadsMore (count : ℕ) (left left_now : Option (List ℕ)) (bytes bytes_now : List ℕ) : Type 0 where
  pub piece : List ℕ
  pub size : length piece ≡ count
  pub lost : Loses left left_now piece
  pub longer : bytes_now ≡ bytes ++ piece

-- some bytes have been given, at most one more than the limit
pub record HasGiven (limit : ℕ) (left left_now : Option (List ℕ)) (given given_now : ℕ) : Type 0 where
  pub bytes : List ℕ
  pub within : length bytes ≤ limit + 1
  pub lost : Loses left left_now bytes
  pub rises : RisesBy (length bytes) given given_now
