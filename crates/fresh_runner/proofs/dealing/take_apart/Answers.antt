use Rattle.fresh_runner.specs.declared.job.FreshJob.{FreshJob}
use Rattle.fresh_runner.proofs.Moved.{moved, room_behind}
use Rattle.fresh_runner.proofs.dealing.take_apart.Goals as goal

pub loop-job-preserved : goal.loop-job-preserved
loop-job-preserved g c =
    let inv = c.loop-job.invariant in
    let left = c.loop-job.jobs.items in
    let more = c.pop.new.self.items in
    let job = c.in-Some.job in
    let last = c.in-Some.ensures.items in
    let put = c.put_back.ensures in
    record {
      passes = moved (λ (j : FreshJob _). j.pass) _ left more job _ _ inv.passes last put.passes;
      shares = moved (λ (j : FreshJob _). j.account.share) _ left more job _ _ inv.shares last put.shares;
      seens = moved (λ (j : FreshJob _). j.account.seen) _ left more job _ _ inv.seens last put.seens;
      marks = moved (λ (j : FreshJob _). j.account.marks) _ left more job _ _ inv.marks last put.marks;
      passes_room = room_behind left more job _ _ _ _ _ inv.passes_room last put.passes put.passes_room;
      shares_room = room_behind left more job _ _ _ _ _ inv.shares_room last put.shares put.shares_room;
      seens_room = room_behind left more job _ _ _ _ _ inv.seens_room last put.seens put.seens_room;
      marks_room = room_behind left more job _ _ _ _ _ inv.marks_room last put.marks put.marks_room;
    }
