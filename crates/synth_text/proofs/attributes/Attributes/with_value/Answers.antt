use Rattle.std.proofs.Common.{◌≡◌, Some, sym, ◌∙◌}
use Rattle.synth_text.specs.declared.fault.Flaw.TheVariants as flaws
use Rattle.synth_text.specs.IndexTexts.{indexes_of}
use Rattle.synth_text.specs.Sizes.{size_of}
use Rattle.synth_text.proofs.Bound.{or_flaw-ok, ok_or-ok}
use Rattle.synth_text.proofs.AttributeFold.{size_added, memory_added, indexes_added}
use Rattle.synth_text.proofs.attributes.Attributes.with_value.Goals as goal

pub returns-in_ok-ok_or-in-Size : goal.returns-in_ok-ok_or-in-Size
returns-in_ok-ok_or-in-Size c before word said entry new =
    let size = c.in_ok-ok_or-in-Size.field-0 in
    let read : size_of c.args.value.now ≡ Some size = sym c.read_size.ensures
    ∙ ok_or-ok c.read_size.result flaws.Attribute size c.in_ok-ok_or-in-Size.ensures.value in
    size_added c.args.self before word c.args.value.now c.args.key size c.in-Size.is said entry new read

pub returns-in_ok-ok_or-in-Memory : goal.returns-in_ok-ok_or-in-Memory
returns-in_ok-ok_or-in-Memory c before word said entry new =
    let size = c.in_ok-ok_or-in-Memory.field-0 in
    let read : size_of c.args.value.now ≡ Some size = sym c.read_size-in-Memory.ensures
    ∙ ok_or-ok c.read_size-in-Memory.result flaws.Attribute size c.in_ok-ok_or-in-Memory.ensures.value in
    memory_added c.args.self before word c.args.value.now c.args.key size c.in-Memory.is said entry new read

pub returns-in_ok-self-in-Indexes : goal.returns-in_ok-self-in-Indexes
returns-in_ok-self-in-Indexes c before word said entry new =
    let given = c.in_ok-self-in-Indexes.field-0 in
    let read : indexes_of c.args.value.now ≡ Some given = or_flaw-ok flaws.Indexes (indexes_of c.args.value.now) given
    c.in_ok-self-in-Indexes.ensures in
    indexes_added c.args.self before word c.args.value.now c.args.key given c.in-Indexes.is said entry new read
