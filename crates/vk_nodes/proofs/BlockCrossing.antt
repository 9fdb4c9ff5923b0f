-- A block and a lease may cross threads.
use Rattle.core.specs.declared.alloc.Allocator.{Ghosts}
use Rattle.std_alloc.proofs.SendSync.{FreesAnywhere, quiet, lies, seen}
use denote.RattleType.{RattleType}
use denote.Array.{Array}
use denote.Struct.Struct.{exits_of}
use denote.Struct.Owning.{shape, fields, to}
use denote.Param.Send.{IsSend, IsSync, AllSend, owning_send, struct_send, struct_sync, array_send, array_sync, recorded_send, recorded_sync, plain_send, plain_sync, sendable}
use denote.Struct.Declared as Declared
use Rattle.vk_nodes.proofs.node.Node.TheSendSync as node
use Rattle.vk_nodes.specs.contracts.block.Block as block
use Rattle.vk_nodes.specs.contracts.block.Lease as lease
use Rattle.vk_nodes.specs.contracts.slot.Slot as slot

slot_send : IsSend slot.the_row
slot_send =
    recorded_send slot.the_field.row _ _ slot.the_type.to_one
    (struct_send (Declared.shape slot.the_type) (plain_send _ _ _ _ _, (plain_send _ _ _ _ _, (node.the_field_send, tt))))

slot_sync : IsSync slot.the_row
slot_sync =
    recorded_sync slot.the_field.row _ _ slot.the_type.to_one
    (struct_sync (Declared.shape slot.the_type) (plain_sync _ _ _ _ _, (plain_sync _ _ _ _ _, (node.the_field_sync, tt))))

pub block_send : IsSend block.the_row
block_send =
    let O = block.the_type in let all : AllSend (fields O) = (search sendable, (search sendable, tt)) in
    owning_send O all (λ d. (tt, lies (Array slot.the_row d.size) (array_send slot.the_row d.size slot_send) d.start d.slots)) (λ k. quiet (to O) (exits_of k (fields O)) ((struct_send (shape O) all).leaving k))

pub block_sync : IsSync block.the_row
block_sync =
    let O = block.the_type in
    record { shared = λ d b o κ. ((struct_sync (shape O) (search sendable, (search sendable, tt))).shared (to O d) b o κ, (tt, seen (Array slot.the_row d.size) (array_sync slot.the_row d.size slot_sync) d.start d.slots κ)) }

module _ (A : RattleType) (g : Ghosts A.Denot) where
  pub lease_send : FreesAnywhere A.Denot g → IsSend (lease.the_row A g)
  lease_send f =
      let O = lease.the_type A g in let all : AllSend (fields O) = (search sendable, tt) in
      owning_send O all (λ d. f.frees d.alloc _ d.start) (λ k. quiet (to O) (exits_of k (fields O)) ((struct_send (shape O) all).leaving k))

  pub lease_sync : IsSync (lease.the_row A g)
  lease_sync = let O = lease.the_type A g in record { shared = λ d b o κ. ((struct_sync (shape O) (search sendable, tt)).shared (to O d) b o κ, tt) }
