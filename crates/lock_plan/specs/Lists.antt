-- What a list in a text says, where each of its pieces has to say something.
use Rattle.std.specs.Prelude.{ℕ, ◌==◌, List, Option}
use Rattle.std.specs.Option.{is_none}
use Rattle.std.specs.List.{slice_split, position}

-- the pieces of a list whose separator is a byte; an empty text is one empty piece
abbrev pub pieces_of : ℕ → List ℕ → List (List ℕ)
pieces_of separator text = slice_split (λ byte. byte == separator) text

-- the pieces of a list with commas, and of one with dashes
abbrev pub comma_list : List ℕ → List (List ℕ)
comma_list text = pieces_of 44 text

abbrev pub dash_list : List ℕ → List (List ℕ)
dash_list text = pieces_of 45 text

-- the place of the first piece that says nothing
abbrev pub first_unknown : {X : Type 0} → (List ℕ → Option X) → List (List ℕ) → Option ℕ
first_unknown says pieces = position (λ piece. is_none (says piece)) pieces
