use Rattle.std.proofs.Common.{◌≡◌, sym}
use Rattle.vk_run.proofs.Answering.{holds_through}
use Rattle.vk_run.proofs.running.outcome_of.Goals as goal

pub returns-in-Refused-clause-answer : goal.returns-in-Refused-clause-answer
returns-in-Refused-clause-answer g c = sym (rw c.in-Refused.is at c.in_ok-at.ensures.exact)

pub returns-in_ok-outcome-in-Accepted-clause-answer : goal.returns-in_ok-outcome-in-Accepted-clause-answer
returns-in_ok-outcome-in-Accepted-clause-answer g c =
    let same : c.in-Accepted.accepted ≡ c.args.entries.now = rw c.in-Accepted.is at c.in_ok-at.ensures.same in
    rw same at c.in_ok-outcome-in-Accepted.ensures.answer

pub returns-in_ok-outcome-in-Accepted-clause-caches : goal.returns-in_ok-outcome-in-Accepted-clause-caches
returns-in_ok-outcome-in-Accepted-clause-caches g c =
    let same : c.in-Accepted.accepted ≡ c.args.entries.now = rw c.in-Accepted.is at c.in_ok-at.ensures.same in
    holds_through c.args.config c.args.entries.now c.in_ok-outcome-in-Accepted.outcome (rw same at c.in_ok-outcome-in-Accepted.ensures.answer)
    c.cached_runs_read_the_meaning.ensures.reads c.cached_runs_read_the_meaning.ensures.whole c.cached_runs_read_the_meaning.ensures.goes_on

pub returns-in_ok-outcome-in-Accepted-clause-view : goal.returns-in_ok-outcome-in-Accepted-clause-view
returns-in_ok-outcome-in-Accepted-clause-view g c =
    let same : c.in-Accepted.accepted ≡ c.args.entries.now = rw c.in-Accepted.is at c.in_ok-at.ensures.same in
    rw same at c.in_ok-outcome-in-Accepted.ensures.view
