use Rattle.vk_order.proofs.LinePrefixes.{prefix}
use Rattle.vk_order.proofs.ByEdges.{after, edge_host, edge_wait, edge_signal, edge_command, edge_barrier, edge_set, edge_await}
use Rattle.vk_order.proofs.laws.prefixes.Goals as goal

pub returns-clause-host : goal.returns-clause-host
returns-clause-host c = λ ns n x numbers is. after n ns numbers _ (edge_host n ns numbers x is)

pub returns-clause-wait : goal.returns-clause-wait
returns-clause-wait c = λ ns n s numbers is. after n ns numbers _ (edge_wait n ns numbers s is)

pub returns-clause-signal : goal.returns-clause-signal
returns-clause-signal c = λ ns n s numbers is. after n ns numbers _ (edge_signal n ns numbers s is)

pub returns-clause-command : goal.returns-clause-command
returns-clause-command c = λ ns n x numbers is. after n ns numbers _ (edge_command n ns numbers x is)

pub returns-clause-barrier : goal.returns-clause-barrier
returns-clause-barrier c = λ ns n e numbers is. after n ns numbers _ (edge_barrier n ns numbers e is)

pub returns-clause-set : goal.returns-clause-set
returns-clause-set c = λ ns n v i e numbers is. after n ns numbers _ (edge_set n ns numbers v i e is)

pub returns-clause-awaited : goal.returns-clause-awaited
returns-clause-awaited c = λ ns n v i e numbers is. after n ns numbers _ (edge_await n ns numbers v i e is)

pub returns-clause-line : goal.returns-clause-line
returns-clause-line c = λ ns l m d n numbers placed hc hd hn lc ld lt. prefix ns m d n numbers placed hc hd hn lt l lc ld
