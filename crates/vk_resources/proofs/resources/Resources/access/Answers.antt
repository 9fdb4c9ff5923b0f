use Rattle.std.proofs.Common.{refl, ap, sym, ◌∙◌}
use Rattle.vk_model.specs.declared.entry.Entry.TheVariants as entry
use Rattle.vk_resources.specs.Rest.{is_changed_by}
use Rattle.vk_resources.proofs.Keeping.{objects_rest}
use Rattle.vk_resources.proofs.HostAccesses.{write_done, write_rest, read_done}
use Rattle.vk_resources.proofs.resources.Resources.access.Goals as goal

pub returns-in_ok-write-in-Write-clause-done : goal.returns-in_ok-write-in-Write-clause-done
returns-in_ok-write-in-Write-clause-done c = λ e past m fit.
    write_done c.args.self.now c.write.new.self c.args.entry.now c.in-Write.buffer c.in-Write.offset c.as_slice.result.now
    (c.in-Write.is ∙ ap (entry.Write c.in-Write.buffer c.in-Write.offset) (sym c.as_slice.ensures)) c.in_ok-write-in-Write.ensures e past m fit

pub returns-in_ok-bytes-in-Read-clause-done : goal.returns-in_ok-bytes-in-Read-clause-done
returns-in_ok-bytes-in-Read-clause-done c = λ e past m fit.
    read_done c.args.self.now c.args.entry.now c.in-Read.buffer c.in-Read.offset c.in-Read.size c.in_ok-bytes-in-Read.bytes c.in-Read.is c.in_ok-bytes-in-Read.ensures.bytes e past m fit

pub returns-in_ok-write-in-Write-clause-rest : goal.returns-in_ok-write-in-Write-clause-rest
returns-in_ok-write-in-Write-clause-rest c = λ past m fit.
    write_rest c.args.self.now c.write.new.self c.args.entry.now c.in-Write.buffer c.in-Write.offset c.as_slice.result.now
    (c.in-Write.is ∙ ap (entry.Write c.in-Write.buffer c.in-Write.offset) (sym c.as_slice.ensures)) c.in_ok-write-in-Write.ensures past m fit

pub returns-in_ok-bytes-in-Read-clause-rest : goal.returns-in_ok-bytes-in-Read-clause-rest
returns-in_ok-bytes-in-Read-clause-rest c = λ past m fit. objects_rest c.args.self.now c.args.self.now (is_changed_by c.args.self.now past c.args.entry.now) (λ number was is. refl)
