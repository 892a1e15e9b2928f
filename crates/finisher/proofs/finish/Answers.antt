-- `finish` meets its contract. Assumes nothing.
use lib.ListN.{length}
use Rattle.std.proofs.lemmas.Result.{err_from_is_err_and}
use Rattle.controller.specs.State.{sq_at, command_at}
use Rattle.controller.proofs.Validity.{valid}
use Rattle.store.specs.Held.{held}
use Rattle.finisher.proofs.Finishes.{Postable, queue_of, refused_call, postable, read_postable, on_posting_lem, finish_refused, finish_done}
use Rattle.finisher.proofs.finish.Goals as goal
use Rattle.finisher.proofs.finish.Goals.{In_ok-may_finish, After-cq_at-y}

-- what is known once the call may be made, and of the command and its queues as they were read
called :
    (c : In_ok-may_finish)
    → let d = held c.args.state.now in
    let k = command_at d c.args.tag in
    Postable k (sq_at d k.sq) (queue_of d c.args.tag) (length c.args.memory.now) c.args.tag c.args.status
called c =
    postable _ _ _ _ c.in_ok-may_finish.ensures (valid c.requires.reachable)

known :
    (c : After-cq_at-y)
    → Postable c.command_at-k.result c.sq_at-x.result c.cq_at-y.result (length c.args.memory.now) c.args.tag c.args.status
known c =
    read_postable _ _ c.command_at-k.ensures c.sq_at-x.ensures c.cq_at-y.ensures _ _ c.in_ok-may_finish.ensures
    (valid c.requires.reachable)

-- ---- the needs
pub returns-in_err-may_finish : goal.returns-in_err-may_finish
returns-in_err-may_finish c =
    let p = err_from_is_err_and c.from_residual.result c.from_residual.ensures.1 in
    rw (p.1, p.2) (c.requires.sound, finish_refused _ _ _ _ _ _ (refused_call _ _ _ _ _ c.in_err-may_finish.ensures))

pub command_at-k-requires : goal.command_at-k-requires
command_at-k-requires c =
    (called (goal.at.command_at-k-requires c).In_ok-may_finish).tag_low

pub sq_at-x-requires : goal.sq_at-x-requires
sq_at-x-requires c =
    rw c.command_at-k.ensures (called (goal.at.sq_at-x-requires c).In_ok-may_finish).sq_low

pub cq_at-y-requires : goal.cq_at-y-requires
cq_at-y-requires c =
    rw (c.sq_at-x.ensures, c.command_at-k.ensures) (called (goal.at.cq_at-y-requires c).In_ok-may_finish).cq_low

pub may_post-requires : goal.may_post-requires
may_post-requires c =
    (known (goal.at.may_post-requires c).After-cq_at-y).ring

pub returns-in_err-may_post : goal.returns-in_err-may_post
returns-in_err-may_post c =
    let p = err_from_is_err_and c.from_residual-in_err-may_post.result c.from_residual-in_err-may_post.ensures.1 in
    rw (p.1, p.2) (
      c.requires.sound,
      finish_refused _ _ _ _ _ _ (on_posting_lem _ _ c.command_at-k.ensures c.sq_at-x.ensures c.cq_at-y.ensures
          _ _ c.in_ok-may_finish.ensures c.in_err-may_post.ensures),
    )

pub post-requires : goal.post-requires
post-requires c =
    let p = known (goal.at.post-requires c).After-cq_at-y in
    (p.ring, p.within, rw c.status_of-given.ensures p.status_low)

pub move_on-requires : goal.move_on-requires
move_on-requires c =
    let p = known (goal.at.move_on-requires c).After-cq_at-y in
    (p.cq_low, c.requires.sound, p.ring, p.phase_low, c.cq_at-y.ensures)

pub unlink-requires : goal.unlink-requires
unlink-requires c =
    ((known (goal.at.unlink-requires c).After-cq_at-y).second_low, c.move_on.ensures.sound)

pub returns : goal.returns
returns c =
    let a = c.args in
    let e = c.command_at-k.ensures in
    let f = c.sq_at-x.ensures in
    let h = c.cq_at-y.ensures in
    let g = c.give_back.ensures in (
      g.sound,
      finish_done (held a.state.now) a.tag e f h a.memory.now a.status a.res
          (on_posting_lem _ _ e f h _ _ c.in_ok-may_finish.ensures c.in_ok-may_post.ensures) _ _ _ c.status_of-given.ensures
          c.post.ensures c.move_on.ensures.is c.unlink.ensures.is g.is,
    )
