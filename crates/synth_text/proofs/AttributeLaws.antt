-- Reading words one after the other comes to what they say.
use Rattle.std.proofs.Common.{◌≡◌, ℕ, Bool, true, false, ◌&&◌, List, [], ◌∷◌, ◌++◌, Option, Some, None, Result, Ok, Err, refl, ap, inl, inr}
use Rattle.std.specs.Prelude.{is_some, not}
use Rattle.std.specs.Option.{option_or}
use Rattle.std.specs.Borrow.{Bor}
use Rattle.std.proofs.lemmas.Bool.{cases_Bool}
use Rattle.std.proofs.lemmas.List.{append_assoc}
use Rattle.byte_text.specs.Views.{text_at}
use Rattle.synth_text.specs.declared.kind.Kind.{Kind}
use Rattle.synth_text.specs.declared.attributes.Attributes.{Attributes}
use Rattle.synth_text.specs.declared.fault.Flaw.{Flaw}
use Rattle.synth_text.specs.declared.fault.Unread.{Unread}
use Rattle.synth_text.specs.declared.fault.Unread.TheVariants as unread
use Rattle.byte_text.specs.Classes.{is_white}
use Rattle.byte_text.specs.Cuts.{first_piece, pieces}
use Rattle.synth_text.specs.Flaws.{◌>>=◌, Fails}
use Rattle.synth_text.specs.Attributes.{
  is_empty,
  words_behind,
  entry_in,
  said_by,
  flaw_in_word,
  first_flaw,
  unless_flawed,
  attributes_in,
  AreSaidBy,
  Adds,
}
use Rattle.byte_text.proofs.CutLaws.{slice_split-first_piece, pieces-next}

-- a reading fails as its first step does
pub fails_first : {A B F : Type 0} (failure : Unread F) (first : Result A F) (next : A → Result B F) → Fails failure first
    → Fails failure (first >>= next)
fails_first (unread.Fault fault) first next h = rw h refl
fails_first unread.OutOfMemory first next h = tt

more_pieces : (text : Option (List ℕ)) → not (is_empty (pieces is_white text)) ≡ is_some text
more_pieces None = refl
more_pieces (Some text) = rw (slice_split-first_piece is_white text) refl

-- what words say behind others, or the flaw of the first wrong one
abbrev all_read : Kind → List (List ℕ) → List (List ℕ) → Result Attributes Flaw
all_read kind before words = unless_flawed (first_flaw kind before words) (said_by (before ++ words))

-- the words read so far give the attributes, and with the words of the rest they give the total
pub record IsSoFar (kind : Kind) (attributes : Attributes) (rest : Option (List ℕ)) (total : Result Attributes Flaw) : Type 0 where
  pub before : List (List ℕ)
  pub said : AreSaidBy attributes before
  pub comes_to : all_read kind before (words_behind (pieces is_white rest)) ≡ total

-- all words read, with the flaw of the first of them told apart
first_then : Kind → List (List ℕ) → List ℕ → List (List ℕ) → Option Flaw → Result Attributes Flaw
first_then kind before word words flaw =
    unless_flawed (option_or flaw (first_flaw kind (before ++ word ∷ []) words)) (said_by (before ++ word ∷ words))

-- ---- one word

added : (kind : Kind) (before : List (List ℕ)) (word : List ℕ) (next : Attributes) (rest : Option (List ℕ)) (flaw : Option Flaw)
    → Adds before word flaw (Ok next)
    → IsSoFar kind next rest (first_then kind before word (words_behind (pieces is_white rest)) flaw)
unfolding first_then
added kind before word next rest flaw h = record {
  before = before ++ word ∷ [];
  said = h.1;
  comes_to =
      rw h.0 (ap (λ (all : List (List ℕ)). unless_flawed (first_flaw kind (before ++ word ∷ []) (words_behind (pieces is_white rest)))
      (said_by all)) (append_assoc before (word ∷ []) (words_behind (pieces is_white rest))));
}

flawed : (kind : Kind) (before : List (List ℕ)) (word : List ℕ) (words : List (List ℕ)) (failure : Unread Flaw) (flaw : Option Flaw)
    → Adds before word flaw (Err failure) → Fails failure (first_then kind before word words flaw)
unfolding first_then
flawed kind before word words (unread.Fault found) flaw h = rw h refl
flawed kind before word words unread.OutOfMemory flaw h = tt

-- ---- the first word

first_word : (kind : Kind) (text : List ℕ) (parts : List ℕ × Option (List ℕ)) → parts ≡ first_piece is_white text
    → attributes_in kind text
    ≡ first_then kind [] parts.0 (words_behind (pieces is_white parts.1)) (flaw_in_word kind [] (entry_in parts.0))
unfolding attributes_in first_then
first_word kind text parts cuts = rw (slice_split-first_piece is_white text, ← cuts) refl

pub begins : (kind : Kind) (text : List ℕ) (next : Attributes) (parts : List ℕ × Option (List ℕ)) → parts ≡ first_piece is_white text
    → Adds [] parts.0 (flaw_in_word kind [] (entry_in parts.0)) (Ok next) → IsSoFar kind next parts.1 (attributes_in kind text)
begins kind text next parts cuts h =
    rw (first_word kind text parts cuts) (added kind [] parts.0 next parts.1 (flaw_in_word kind [] (entry_in parts.0)) h)

pub begins_badly : (kind : Kind) (text : List ℕ) (failure : Unread Flaw) (parts : List ℕ × Option (List ℕ))
    → parts ≡ first_piece is_white text → Adds [] parts.0 (flaw_in_word kind [] (entry_in parts.0)) (Err failure)
    → Fails failure (attributes_in kind text)
begins_badly kind text failure parts cuts h =
    rw (first_word kind text parts cuts)
    (flawed kind [] parts.0 (words_behind (pieces is_white parts.1)) failure (flaw_in_word kind [] (entry_in parts.0)) h)

-- ---- the words behind it

-- what the code's step over a piece gives: in a gap nothing new, else one more word
pub record StepsOver (kind : Kind) (attributes : Attributes) (word : List ℕ) (is_more : Bool) (step : Result Attributes (Unread Flaw))
    : Type 0 where
  pub gap : (is_empty word && is_more) ≡ true → step ≡ Ok attributes
  pub adds : (is_empty word && is_more) ≡ false → (before : List (List ℕ)) → AreSaidBy attributes before
      → Adds before word (flaw_in_word kind before (entry_in word)) step

in_gap : (kind : Kind) (attributes : Attributes) (rest : Option (List ℕ)) (text : List ℕ) (parts : List ℕ × Option (List ℕ))
    (total : Result Attributes Flaw) → rest ≡ Some text → parts ≡ first_piece is_white text
    → (is_empty parts.0 && is_some parts.1) ≡ true → IsSoFar kind attributes rest total → IsSoFar kind attributes parts.1 total
in_gap kind attributes rest text parts total is cuts gap h = record {
  before = h.before;
  said = h.said;
  comes_to = rw (pieces-next is_white rest text parts is cuts, more_pieces parts.1, gap) at h.comes_to;
}

at_word : (kind : Kind) (attributes : Attributes) (rest : Option (List ℕ)) (text : List ℕ) (parts : List ℕ × Option (List ℕ))
    (total : Result Attributes Flaw) → rest ≡ Some text → parts ≡ first_piece is_white text
    → (is_empty parts.0 && is_some parts.1) ≡ false → (h : IsSoFar kind attributes rest total)
    → first_then kind h.before parts.0 (words_behind (pieces is_white parts.1)) (flaw_in_word kind h.before (entry_in parts.0)) ≡ total
unfolding first_then
at_word kind attributes rest text parts total is cuts word h =
    rw (pieces-next is_white rest text parts is cuts, more_pieces parts.1, word) at h.comes_to

ok_is : (a b : Attributes)
    → (let r : Result Attributes (Unread Flaw) = Ok a in let s : Result Attributes (Unread Flaw) = Ok b in r ≡ s) → a ≡ b
ok_is a b e = cc

err_is_no_ok : (failure : Unread Flaw) (a : Attributes)
    → (let r : Result Attributes (Unread Flaw) = Err failure in let s : Result Attributes (Unread Flaw) = Ok a in r ≡ s) → ⊥
err_is_no_ok failure a e = cc

pub goes_on : (kind : Kind) (attributes next : Attributes) (rest : Option (List ℕ)) (text : List ℕ) (parts : List ℕ × Option (List ℕ))
    (total : Result Attributes Flaw) → rest ≡ Some text → parts ≡ first_piece is_white text
    → StepsOver kind attributes parts.0 (is_some parts.1) (Ok next)
    → IsSoFar kind attributes rest total → IsSoFar kind next parts.1 total
goes_on kind attributes next rest text parts total is cuts step h =
    elim (cases_Bool (is_empty parts.0 && is_some parts.1)) [
      | inl gap ↦ rw (ok_is next attributes (step.gap gap)) (in_gap kind attributes rest text parts total is cuts gap h)
      | inr word ↦
          rw (← at_word kind attributes rest text parts total is cuts word h)
          (added kind h.before parts.0 next parts.1 (flaw_in_word kind h.before (entry_in parts.0)) (step.adds word h.before h.said))
    ]

pub stops : (kind : Kind) (attributes : Attributes) (failure : Unread Flaw) (rest : Option (List ℕ)) (text : List ℕ)
    (parts : List ℕ × Option (List ℕ)) (total : Result Attributes Flaw) → rest ≡ Some text → parts ≡ first_piece is_white text
    → StepsOver kind attributes parts.0 (is_some parts.1) (Err failure) → IsSoFar kind attributes rest total → Fails failure total
stops kind attributes failure rest text parts total is cuts step h =
    elim (cases_Bool (is_empty parts.0 && is_some parts.1)) [
      | inl gap ↦ absurd (err_is_no_ok failure attributes (step.gap gap))
      | inr word ↦
          rw (← at_word kind attributes rest text parts total is cuts word h)
          (flawed kind h.before parts.0 (words_behind (pieces is_white parts.1)) failure (flaw_in_word kind h.before (entry_in parts.0))
          (step.adds word h.before h.said))
    ]

-- whether there is a text, seen as a list or lent
pub some_text : (text : Option (Bor (List ℕ))) → is_some (text_at text) ≡ is_some text
some_text None = refl
some_text (Some text) = refl
