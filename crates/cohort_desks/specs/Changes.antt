-- What becomes of a list of desks where one of them gets a place or leaves one.
use Rattle.std.specs.Prelude.{◌≡◌, ◌++◌, ◌∷◌, [], ℕ, List, Some, length, slice_get, vec_capacity}
use Rattle.cohort_desks.specs.declared.desk.Place.{Place}
use Rattle.cohort_desks.specs.declared.desk.Desk.{Desk}

module _ {J : Type 0} where
  -- the desk at this place has become another, as R says, and the others are as they were
  pub record HasChanged (R : Desk J → Desk J → Type 0) (old new : List (Desk J)) (at : ℕ) : Type 0 where
    pub many : length new ≡ length old
    pub others : (k : ℕ) → (k ≡ at → ⊥) → slice_get new k ≡ slice_get old k
    pub here : (d d' : Desk J) → slice_get old at ≡ Some d → slice_get new at ≡ Some d' → R d d'

  -- it has one place more, in the room that it has
  abbrev pub HasPlaceMore : Place J → Desk J → Desk J → Type 0
  HasPlaceMore p d d' = (d'.number ≡ d.number) × (d'.places.items ≡ d.places.items ++ p ∷ []) × (vec_capacity d'.places ≡ vec_capacity
      d.places)

  -- it left its last place
  abbrev pub HasPlaceLess : Place J → Desk J → Desk J → Type 0
  HasPlaceLess p d d' = (d'.number ≡ d.number) × (d.places.items ≡ d'.places.items ++ p ∷ [])
