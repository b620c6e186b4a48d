-- What a handle owns may go to another thread: the box that it has, and the right to free it.
use mir.Raw.{raw}
use base.Shift.{Keyless}
use denote.Memory.{lone}
use denote.RattleType.{RattleType}
use denote.RawPtr.{Ptr, block_ptr, null_ptr}
use denote.Struct.Struct.{exits_of}
use denote.Struct.Owning.{shape, fields, to}
use denote.Param.Send.{IsSend, AllSend, owning_send, struct_send, sendable}
use Rattle.std.proofs.Crossing as heap
use Rattle.std.specs.declared.alloc.Global.{Global}
use Rattle.std.specs.declared.option.Option.{Option}
use Rattle.std_alloc.proofs.SendSync.{quiet, lies}
use Rattle.std.proofs.alloc.Global.TheSendSync as alloc
use Rattle.lock_handles.specs.Handles.{kept}
use Rattle.level_handles.specs.contracts.any_depth.AnyDepth as any
use Rattle.level_handles.proofs.Sent.{sent as caller}
use Rattle.level_handles.specs.contracts.handle.ClofComposedCaller.{the_row, the_type}

abbrev R : RattleType
R = any.the_row

kept_keyless : (a : Global) (p : Ptr) (held : Option R.Denot) → Keyless (kept R a p held)
kept_keyless a null_ptr held = λ _. tt
kept_keyless a (block_ptr b o) held = λ y.
    ((λ _. tt), (lies R caller (block_ptr b o) y, heap.frees.frees a (raw (lone R.mir)) (block_ptr b o)))

pub send : IsSend the_row
send =
    let all : AllSend (fields the_type) = (search sendable, (alloc.the_field_send, tt)) in
    owning_send the_type all (λ d. kept_keyless d.alloc d.at d.held)
    (λ k. quiet (to the_type) (exits_of k (fields the_type)) ((struct_send (shape the_type) all).leaving k))
