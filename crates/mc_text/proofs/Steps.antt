-- The command at the front of a text, step by step.
use Rattle.std.proofs.Common.{◌≡◌, ℕ, Bool, add-zero, ◌+◌, ◌≤◌, List, length, take, drop, Some, None, refl, arith}
use Rattle.std.specs.List.{Contains}
use Rattle.std.proofs.lemmas.List.{length-drop}
use Rattle.byte_text.specs.Cuts.{IsCutAt}
use Rattle.mc_text.specs.Request.{Request}
use Rattle.mc_text.specs.Line.{Header, Storage, Whole, words_of_line, line_of}
use Rattle.mc_text.specs.Reading.{asked_by, line_end, stored, first_command}
use Rattle.byte_text.proofs.CutLaws.{cut-from_IsCutAt, cut-from_lacks}
use Rattle.mc_text.proofs.Blocks.{end_short}

-- a text without a line
pub no_line : (text : List ℕ) → ¬ (Contains text 10) → first_command text ≡ None
unfolding first_command
no_line text lacks = rw (cut-from_lacks 10 text lacks) refl

-- a line that is a command by itself
pub whole_line : (text content behind : List ℕ) (request : Request) → IsCutAt 10 text content behind
    → line_of (words_of_line content) ≡ Whole request
    → first_command text ≡ Some (record { request = request; spelling = take (length content + 1) text })
unfolding first_command asked_by
whole_line text content behind request cut said = rw (cut-from_IsCutAt 10 text content behind cut, said, add-zero) refl

-- a storage line whose block and line end aren't there
pub no_end : (text content behind : List ℕ) (header : Header) → IsCutAt 10 text content behind
    → line_of (words_of_line content) ≡ Storage header → line_end (drop header.bytes behind) ≡ None → first_command text ≡ None
unfolding first_command asked_by
no_end text content behind header cut said ends = rw (cut-from_IsCutAt 10 text content behind cut, said, ends) refl

-- a storage line whose block isn't there
pub no_block : (text content behind : List ℕ) (header : Header) → IsCutAt 10 text content behind
    → line_of (words_of_line content) ≡ Storage header → length behind ≤ header.bytes → first_command text ≡ None
no_block text content behind header cut said few =
    no_end text content behind header cut said
    (end_short (drop header.bytes behind) (omega (arith, length-drop header.bytes behind)))

-- a storage line, its block and its line end
pub with_block : (text content behind : List ℕ) (header : Header) (ended : Bool) (more : ℕ) → IsCutAt 10 text content behind
    → line_of (words_of_line content) ≡ Storage header → line_end (drop header.bytes behind) ≡ Some (ended, more)
    → first_command text
    ≡ Some (record {
      request = stored header (take header.bytes behind) ended;
      spelling = take (length content + 1 + (header.bytes + more)) text;
    })
unfolding first_command asked_by
with_block text content behind header ended more cut said ends = rw (cut-from_IsCutAt 10 text content behind cut, said, ends) refl

-- a line that asks for something
pub something_asked : (text content behind : List ℕ) (request : Request) (more : ℕ) → IsCutAt 10 text content behind
    → asked_by (line_of (words_of_line content)) behind ≡ Some (request, more)
    → first_command text ≡ Some (record { request = request; spelling = take (length content + 1 + more) text })
unfolding first_command
something_asked text content behind request more cut asks = rw (cut-from_IsCutAt 10 text content behind cut, asks) refl

pub ruleset steps = (no_line, whole_line, no_end, no_block, with_block)
