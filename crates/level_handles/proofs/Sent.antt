-- The callers of composed locks may go to another thread.
use denote.RattleType.{RattleType}
use denote.Enum.Enum.{Enum}
use denote.Enum.Declared.{Declared, shape}
use denote.Struct.Declared.{shape as fields_shape}
use denote.Struct.Field.{unit-field}
use denote.Param.Send.{EachSend, IsSend, enum_send, recorded_send, sendable, struct_send, view_send}
use Rattle.clof_compose.specs.declared.composed.Composed as Composed
use Rattle.clof_compose.specs.declared.token.Resting as Resting
use Rattle.clof_compose.specs.declared.token.Climbing as Climbing
use Rattle.clof_compose.specs.declared.token.Standing as Standing
use Rattle.clof_compose.specs.declared.token.Descending as Descending
use Rattle.own_payload.specs.declared.noted.Noted.{Noted}
use Rattle.lock_depths.specs.Crossing.{Crosses}
use Rattle.lock_depths.proofs.Sent.{below, noted_sent, noted_top}
use Rattle.lock_depths.proofs.SentDepths.{four_crosses, three_crosses, two_crosses}
use Rattle.level_callers.specs.contracts.caller.Caller as Caller
use Rattle.level_callers.proofs.caller.Caller.TheSendSync as caller
use Rattle.level_handles.specs.contracts.any_depth.AnyDepth as any
use Rattle.level_handles.specs.contracts.depths.OneLevel as One
use Rattle.level_handles.specs.contracts.depths.OneLevel.TheInside as one_inside
use Rattle.level_handles.specs.contracts.depths.TwoLevels as Two
use Rattle.level_handles.specs.contracts.depths.TwoLevels.TheInside as two_inside
use Rattle.level_handles.specs.contracts.depths.ThreeLevels as Three
use Rattle.level_handles.specs.contracts.depths.ThreeLevels.TheInside as three_inside
use Rattle.level_handles.specs.contracts.depths.FourLevels as Four
use Rattle.level_handles.specs.contracts.depths.FourLevels.TheInside as four_inside
use Rattle.level_handles.specs.contracts.depths.FiveLevels as Five
use Rattle.level_handles.specs.contracts.depths.FiveLevels.TheInside as five_inside

caller_sent : (L P Q H E : RattleType)
    (g : Composed.Ghosts L.Denot (Noted (unit-field).Value) P.Denot Q.Denot H.Denot E.Denot) (p : Resting.Ghosts P.Denot)
    (q : Climbing.Ghosts Q.Denot) (h : Standing.Ghosts H.Denot (Noted (unit-field).Value)) (e : Descending.Ghosts E.Denot)
    → Crosses L P Q H E → IsSend (Caller.the_row L P Q H E g p q h e)
caller_sent L P Q H E g p q h e c = let t = c.tokens in
    caller.the_send L P Q H E g p q h e c.lock_sent t.pass_sent t.queue_sent t.held_sent t.leave_sent c.lock_shared

one_sent : IsSend One.the_row
one_sent =
    let fields : IsSend one_inside.the_row =
    recorded_send _ _ _ one_inside.the_type.to_one
    (struct_send (fields_shape one_inside.the_type) (search (caller_sent, noted_top), (search sendable, tt))) in
    view_send one_inside.the_row _ _ _ _ fields

two_sent : IsSend Two.the_row
two_sent =
    let fields : IsSend two_inside.the_row =
    recorded_send _ _ _ two_inside.the_type.to_one
    (struct_send (fields_shape two_inside.the_type)
    (search (caller_sent, noted_top, below, noted_sent) depth 12, (search sendable, tt))) in
    view_send two_inside.the_row _ _ _ _ fields

three_sent : IsSend Three.the_row
three_sent =
    let fields : IsSend three_inside.the_row =
    recorded_send _ _ _ three_inside.the_type.to_one
    (struct_send (fields_shape three_inside.the_type)
    (search (caller_sent, two_crosses, below, noted_sent) depth 12, (search sendable, tt))) in
    view_send three_inside.the_row _ _ _ _ fields

four_sent : IsSend Four.the_row
four_sent =
    let fields : IsSend four_inside.the_row =
    recorded_send _ _ _ four_inside.the_type.to_one
    (struct_send (fields_shape four_inside.the_type)
    (search (caller_sent, three_crosses, below, noted_sent) depth 12, (search sendable, tt))) in
    view_send four_inside.the_row _ _ _ _ fields

five_sent : IsSend Five.the_row
five_sent =
    let fields : IsSend five_inside.the_row =
    recorded_send _ _ _ five_inside.the_type.to_one
    (struct_send (fields_shape five_inside.the_type)
    (search (caller_sent, four_crosses, below, noted_sent) depth 12, (search sendable, tt))) in
    view_send five_inside.the_row _ _ _ _ fields

abbrev T : Declared
T = any.the_type

pub sent : IsSend any.the_row
sent =
    let all : EachSend (shape T).variants =
    ((one_sent, tt), ((two_sent, tt), ((three_sent, tt), ((four_sent, tt), ((five_sent, tt), tt))))) in
    recorded_send (Enum (shape T)) T.D T.to T.to_one (enum_send (shape T) all)
