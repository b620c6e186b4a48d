-- The whole command that a text begins with: the relation and the reading of it agree.
use Rattle.std.proofs.Common.{◌≡◌, ℕ, ◌+◌, ◌<◌, ◌≤◌, Bool, true, false, List, ◌∷◌, ◌++◌, length, take, drop, Option, Some, None, option_map}
use Rattle.std.proofs.Common.{option_and_then, inl, inr, refl, sym, ap, ◌∙◌, subst, arith}
use Rattle.std.proofs.lemmas.List.{length-append, length-take-le, length-drop, take-append-drop, take_at, drop_at}
use Rattle.byte_text.specs.Cuts.{IsCutAt}
use Rattle.byte_text.proofs.CutLaws.{CutsAt, cuts_of}
use Rattle.mc_text.specs.Request.{Request, WholeCommand}
use Rattle.mc_text.specs.Line.{Header, Line, Storage, Whole, words_of_line, line_of}
use Rattle.mc_text.specs.Begins.{Asks, Begins, EndsAtOnce, EndsLater}
use Rattle.mc_text.specs.Section.{NoCommand}
use Rattle.mc_text.specs.Reading.{at_line_end, line_end, stored, asked_by, first_command}
use Rattle.mc_text.proofs.Pairs.{some_pair}
use Rattle.mc_text.proofs.Blocks.{IsEnd, end_at_once, end_differs, end_is}
use Rattle.mc_text.proofs.Steps.{something_asked}

-- a block with `\r\n` behind it
at_once_end : (bytes : ℕ) (behind block : List ℕ) → EndsAtOnce behind bytes block
    → (line_end (drop bytes behind) ≡ Some (true, 2)) × (take bytes behind ≡ block)
at_once_end bytes behind block ends =
    let behind_is = ends.behind_is in
    let length_is = ends.length_is in
    let rest : drop bytes behind ≡ 13 ∷ 10 ∷ ends.after = rw behind_is (drop_at block (13 ∷ 10 ∷ ends.after) bytes length_is) in
    let front : take bytes behind ≡ block = rw behind_is (take_at block (13 ∷ 10 ∷ ends.after) bytes length_is) in
    (ap line_end rest ∙ end_at_once ends.after, front)

-- a block with other bytes behind it
later_end : (bytes : ℕ) (behind : List ℕ) (extra : ℕ) → EndsLater behind bytes extra → line_end (drop bytes behind) ≡ Some (false, extra)
later_end bytes behind extra ends =
    let behind_is = ends.behind_is in
    let length_is = ends.length_is in
    let rest : drop bytes behind ≡ ends.tail = rw behind_is (drop_at ends.block ends.tail bytes length_is) in
    ap line_end rest ∙ end_differs ends.tail ends.other ends.after ends.two ends.differs ends.cut
    ∙ ap (λ n. Some (false, n)) (sym ends.extra_is)

-- what a line asks for is what is read
pub asks_asked : (line : Line) (behind : List ℕ) (request : Request) (more : ℕ) → Asks line behind request more
    → asked_by line behind ≡ Some (request, more)
unfolding asked_by
asks_asked (Whole asked) behind request more asks =
    let request_is = asks.0 in
    let more_is = asks.1 in
    rw (request_is, more_is) refl
asks_asked (Storage header) behind request more (inl asks) =
    let ends = at_once_end header.bytes behind asks.0 asks.1 in
    let request_is = asks.2 in
    let more_is = asks.3 in
    rw (ends.0, ends.1, request_is, more_is) refl
asks_asked (Storage header) behind request more (inr asks) =
    let ends = later_end header.bytes behind asks.0 asks.1 in
    let request_is = asks.2 in
    let more_is = asks.3 in
    rw (ends, request_is, more_is) refl

-- what is asked for reaches no further than the text
asks_within : (line : Line) (behind : List ℕ) (request : Request) (more : ℕ) → Asks line behind request more → more ≤ length behind
asks_within (Whole asked) behind request more asks = omega (arith, asks.1)
asks_within (Storage header) behind request more (inl asks) =
    let ends = asks.1 in
    let long = length-append asks.0 (13 ∷ 10 ∷ ends.after) in
    omega (arith, ap length ends.behind_is, ends.length_is, long, asks.3)
asks_within (Storage header) behind request more (inr asks) =
    let ends = asks.1 in
    let long = length-append ends.block ends.tail in
    let tail = length-append ends.other (10 ∷ ends.after) in
    omega (arith, ap length ends.behind_is, ends.length_is, long, asks.3, ends.extra_is, ap length ends.cut.parts, tail)

-- a whole command has at least one byte, and no more than the text
pub begins_within : (text : List ℕ) (command : WholeCommand) (count : ℕ) → Begins text command count → (0 < count) × (count ≤ length text)
begins_within text command count begins =
    let cut = begins.cut in
    let more = asks_within (line_of (words_of_line begins.content)) begins.behind command.request begins.more begins.asks in
    let long = length-append begins.content (10 ∷ begins.behind) in
    (omega (arith, begins.count_is), omega (arith, begins.count_is, ap length cut.parts, long))

-- it is spelled by that many bytes
pub begins_count : (text : List ℕ) (command : WholeCommand) (count : ℕ) → Begins text command count → length command.spelling ≡ count
begins_count text command count begins =
    ap length begins.spelling_is ∙ length-take-le count text (begins_within text command count begins).1

-- the text is the spelling, and what stands behind it
pub begins_parts : (text : List ℕ) (command : WholeCommand) (count : ℕ) → Begins text command count
    → text ≡ command.spelling ++ drop (length command.spelling) text
begins_parts text command count begins =
    sym (take-append-drop count text)
    ∙ ap (λ front. front ++ drop count text) (sym begins.spelling_is)
    ∙ ap (λ n. command.spelling ++ drop n text) (sym (begins_count text command count begins))

-- the whole command is the one that is read
pub begins_first : (text : List ℕ) (command : WholeCommand) (count : ℕ) → Begins text command count → first_command text ≡ Some command
begins_first text command count begins =
    let asked = asks_asked (line_of (words_of_line begins.content)) begins.behind command.request begins.more begins.asks in
    something_asked text begins.content begins.behind command.request begins.more begins.cut asked
    ∙ ap (λ n. Some (record { request = command.request; spelling = take n text })) (sym begins.count_is)
    ∙ ap (λ spelling. Some (record { request = command.request; spelling = spelling })) (sym begins.spelling_is)

-- what is read behind a storage line is what it asks for
end_asks : (header : Header) (behind : List ℕ) (ended : Bool) (extra : ℕ) → IsEnd (drop header.bytes behind) ended extra
    → Asks (Storage header) behind (stored header (take header.bytes behind) ended) (header.bytes + extra)
end_asks header behind true extra ends =
    let bytes = header.bytes in
    let within : bytes ≤ length behind = omega (arith, length-drop bytes behind, ap length ends.0) in
    inl (
      take bytes behind,
      record {
        after = drop 2 (drop bytes behind);
        behind_is = sym (take-append-drop bytes behind) ∙ ap (λ rest. take bytes behind ++ rest) ends.0;
        length_is = length-take-le bytes behind within;
      },
      refl,
      ap (λ n. bytes + n) ends.1,
    )
end_asks header behind false extra ends =
    let bytes = header.bytes in
    let within : bytes ≤ length behind = omega (arith, length-drop bytes behind, ends.two) in
    inr (
      extra,
      record {
        block = take bytes behind;
        tail = drop bytes behind;
        other = ends.other;
        after = ends.after;
        behind_is = sym (take-append-drop bytes behind);
        length_is = length-take-le bytes behind within;
        two = ends.two;
        differs = ends.differs;
        cut = ends.cut;
        extra_is = ends.more_is;
      },
      refl,
      refl,
    )

-- once what stands behind the block is known
storage_asked : (header : Header) (behind : List ℕ) (request : Request) (more : ℕ) (end : Option (Bool × ℕ))
    → line_end (drop header.bytes behind) ≡ end
    → option_map {U = Request × ℕ} (λ (e : Bool × ℕ). (stored header (take header.bytes behind) e.0, header.bytes + e.1)) end
    ≡ Some (request, more) → Asks (Storage header) behind request more
storage_asked header behind request more None found is = cc
storage_asked header behind request more (Some end) found is =
    let asks = end_asks header behind end.0 end.1 (end_is (drop header.bytes behind) end.0 end.1 found) in
    let same = some_pair (stored header (take header.bytes behind) end.0) request (header.bytes + end.1) more is in
    subst (λ r. Asks (Storage header) behind r more) same.0
    (subst (λ n. Asks (Storage header) behind (stored header (take header.bytes behind) end.0) n) same.1 asks)

-- what is read of a line is what it asks for
pub asked_asks : (line : Line) (behind : List ℕ) (request : Request) (more : ℕ) → asked_by line behind ≡ Some (request, more)
    → Asks line behind request more
unfolding asked_by
asked_asks (Storage header) behind request more is =
    storage_asked header behind request more (line_end (drop header.bytes behind)) refl is
asked_asks (Whole asked) behind request more is =
    let same = some_pair asked request 0 more is in
    (sym same.0, sym same.1)

-- a command that is read begins the text: once its line is known
read_asked : (text content behind : List ℕ) (command : WholeCommand) (asked : Option (Request × ℕ)) → IsCutAt 10 text content behind
    → asked_by (line_of (words_of_line content)) behind ≡ asked
    → option_map {U = WholeCommand}
    (λ (a : Request × ℕ). record { request = a.0; spelling = take (length content + 1 + a.1) text }) asked ≡ Some command
    → (count : ℕ) × Begins text command count
read_asked text content behind command None cut asked_is is = cc
read_asked text content behind command (Some asked) cut asked_is is =
    let read : WholeCommand = record { request = asked.0; spelling = take (length content + 1 + asked.1) text } in
    let same : read ≡ command = cc in (
      length content + 1 + asked.1,
      subst (λ c. Begins text c (length content + 1 + asked.1)) same
          (record {
            content = content;
            behind = behind;
            more = asked.1;
            cut = cut;
            asks = asked_asks (line_of (words_of_line content)) behind asked.0 asked.1 asked_is;
            count_is = refl;
            spelling_is = refl;
          }),
    )

-- from the whole text
read_cut : (text : List ℕ) (command : WholeCommand) (cut : Option (List ℕ × List ℕ)) → at_line_end text ≡ cut
    → option_and_then (λ (p : List ℕ × List ℕ). option_map {U = WholeCommand}
    (λ (a : Request × ℕ). record { request = a.0; spelling = take (length p.0 + 1 + a.1) text })
    (asked_by (line_of (words_of_line p.0)) p.1)) cut ≡ Some command → (count : ℕ) × Begins text command count
read_cut text command None cut is = cc
read_cut text command (Some parts) cut is =
    read_asked text parts.0 parts.1 command (asked_by (line_of (words_of_line parts.0)) parts.1)
    (subst (CutsAt 10 text) cut (cuts_of 10 text)) refl is

-- the command that is read begins the text
pub first_begins : (text : List ℕ) (command : WholeCommand) → first_command text ≡ Some command
    → Begins text command (length command.spelling)
unfolding first_command
first_begins text command is =
    let read = read_cut text command (at_line_end text) refl is in
    subst (λ n. Begins text command n) (sym (begins_count text command read.0 read.1)) read.1

-- where nothing is read, no whole command begins the text
pub first_no_command : (text : List ℕ) → first_command text ≡ None → NoCommand text
first_no_command text is = λ command count begins. let other = begins_first text command count begins in cc

-- no command is read where none begins the text
no_command_read : (text : List ℕ) (read : Option WholeCommand) → first_command text ≡ read → NoCommand text → read ≡ None
no_command_read text None is no_command = refl
no_command_read text (Some command) is no_command = absurd (no_command command (length command.spelling) (first_begins text command is))

-- where no whole command begins the text, nothing is read
pub no_command_first : (text : List ℕ) → NoCommand text → first_command text ≡ None
no_command_first text no_command = no_command_read text (first_command text) refl no_command
