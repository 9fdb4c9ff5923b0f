-- A `&` to a block is made where one to its slots is. It lends the bound on its size, and its slots.
use base.Fraction.{full_share}
use denote.RattleType.{RattleType}
use denote.Array.{Array, Array-row_laws}
use denote.Sharing.{said}
use denote.SharingLaws.{said_shr_laws, beside_shr_laws}
use denote.RawPtr.{lies_at}
use denote.Shares.{Shares-Array}
use denote.Param.Shared.{copy_shared}
use denote.Struct.Field.{RawPtr-field, usize-field}
use denote.Struct.Laws.{RawPtr-copy, usize-copy}
use denote.Struct.Lending.{lent_at, lent_at_shr_laws, Lends-lies, Lends-said, Lends-both, of_Lends}
use Rattle.vk_nodes.specs.Inner.Ownership.{fits}
use Rattle.vk_nodes.specs.contracts.slot.Slot as slot
use Rattle.vk_nodes.proofs.slot.Slot.TheLaws as slot_laws
use Rattle.vk_nodes.specs.contracts.block.Block as C
use Rattle.vk_nodes.proofs.block.Block.TheLaw.Statement.{statement}

pub shares : statement
shares = of_Lends C.struct C.the_codes C.the_heap C.the_lent
    (λ d p. beside_shr_laws (said (fits d.size)) (lent_at (Array slot.the_row d.size) d.start d.slots) (said_shr_laws (fits d.size) tt) (lent_at_shr_laws (Array slot.the_row d.size) (Array-row_laws slot.the_row slot_laws.the_row_laws.shr_laws d.size) d.start d.slots))
    (copy_shared RawPtr-field RawPtr-copy, (copy_shared usize-field usize-copy, tt))
    (λ M 𝓤 𝓛 d p. let l = C.the_row.lives in let all : RattleType = Array slot.the_row d.size in
    Lends-both 𝓛 (fits d.size) (lies_at all full_share d.start d.slots) (said (fits d.size)) (lent_at all d.start d.slots) l (Lends-said 𝓛 (fits d.size) tt l)
    (Lends-lies 𝓛 all l d.start d.slots (Shares-Array 𝓛 slot.the_row tt d.size l (slot_laws.the_row_laws.shares 𝓛) d.slots)))
