use Rattle.std.proofs.Common.{◌≡◌, ◌+◌, ◌∙◌, Some, None, length, take, drop, sym, ap, arith}
use Rattle.mc_text.specs.Request.{spelling_of}
use Rattle.mc_text.specs.View.{header_view}
use Rattle.mc_text.specs.Reading.{line_end, stored}
use Rattle.mc_text.proofs.Steps.{no_end, with_block}
use Rattle.mc_text.proofs.first.first_command.Goals as goal

pub returns-in_err-ended-in-Storage : goal.returns-in_err-ended-in-Storage
returns-in_err-ended-in-Storage c =
    let header = header_view c.in-Storage.header in
    let behind = c.in_ok-content.behind.now in
    let none : line_end (drop header.bytes behind) ≡ None =
    ap line_end (sym c.in_ok-block-in-Storage.ensures.cases.2) ∙ sym c.in_err-ended-in-Storage.ensures.value in
    rw c.from_residual-in_err-ended-in-Storage.ensures
    (sym (no_end c.args.text.now c.in_ok-content.content.now behind header c.in_ok-content.ensures (sym c.in-Storage.ensures.said) none))

pub returns-in_ok-ended-in-Storage : goal.returns-in_ok-ended-in-Storage
returns-in_ok-ended-in-Storage c =
    let text = c.args.text.now in
    let content = c.in_ok-content.content.now in
    let behind = c.in_ok-content.behind.now in
    let header = header_view c.in-Storage.header in
    let block = c.in_ok-block-in-Storage.block.now in
    let ended = c.in_ok-ended-in-Storage.ended in
    let more = c.in_ok-ended-in-Storage.more in
    let split = c.in_ok-block-in-Storage.ensures.cases in
    let ends : line_end (drop header.bytes behind) ≡ Some (ended, more) =
    ap line_end (sym split.2) ∙ sym c.in_ok-ended-in-Storage.ensures.value in
    let found = with_block text content behind header ended more c.in_ok-content.ensures (sym c.in-Storage.ensures.said) ends in
    let count : length content + 1 + length block + more ≡ length content + 1 + (header.bytes + more) = omega (arith, split.3) in
    let asked = c.stored.ensures.request ∙ ap (λ b. stored header b ended) split.1 in
    let spelled = c.stored.ensures.spelled ∙ ap (λ n. take n text) count in
    ap (λ request. Some (record { request = request; spelling = spelling_of c.stored.result })) asked
    ∙ ap (λ spelling. Some (record { request = stored header (take header.bytes behind) ended; spelling = spelling })) spelled
    ∙ sym found
