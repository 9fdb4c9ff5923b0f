use Rattle.vk_rules.proofs.mapping.of_entry.Goals as goal

pub returns-in-Write-clause-broken : goal.returns-in-Write-clause-broken
returns-in-Write-clause-broken c = rw c.in-Write.is c.unmapped-in-Write.ensures.broken

pub returns-in-Read-clause-broken : goal.returns-in-Read-clause-broken
returns-in-Read-clause-broken c = rw c.in-Read.is c.unmapped-in-Read.ensures.broken

pub returns-in-Flush-clause-broken : goal.returns-in-Flush-clause-broken
returns-in-Flush-clause-broken c = rw c.in-Flush.is c.unmapped-in-Flush.ensures.broken

pub returns-in-Invalidate-clause-broken : goal.returns-in-Invalidate-clause-broken
returns-in-Invalidate-clause-broken c = rw c.in-Invalidate.is c.unmapped-in-Invalidate.ensures.broken
