-- Which of two points of a past came first, and the past in which a batch's ids are judged.
use Rattle.std.proofs.Common.{◌≡◌, ◌⊎◌, inl, inr, ℕ, ◌<◌, [], ◌∷◌, length, Bool, true, false, ◌&&◌, IsTrue, refl, ap, sym, subst, arith}
use Rattle.std.specs.Prelude.{Contains, ◌==◌, is_some, if◌then◌else◌}
use Rattle.std.proofs.lemmas.Bool.{eqb-true, eq-eqb, and_parts}
use Rattle.vk_model.specs.declared.entry.Entry.{Entry}
use Rattle.vk_model.specs.Trace.Point.{Past, Point, Action, Host, Wait, Run, Signal, host_of, entries}
use Rattle.vk_model.specs.Trace.Order.{host}
use Rattle.vk_model.specs.Trace.Structure.{Follows, IsOrdered}
use Rattle.vk_model.specs.Sync.Node.{Node, nodes}
use Rattle.vk_model.specs.Rules.Fault.{Comes, newest, older}
use Rattle.vk_model.specs.Rules.Ids.{until}
use Rattle.vk_model.specs.Laws.{GrowthKeeps}
use Rattle.vk_model.proofs.Lists.Members.{none_in, contains-cons, contains-tail}
use Rattle.vk_model.proofs.Lists.Truths.{clash}
use Rattle.vk_model.proofs.Trace.Structure.{entry_below}
use Rattle.vk_laws.proofs.Nodes.NoHazard.{split_at}
use Rattle.vk_laws.proofs.Nodes.Prefixes.{old_has}

-- ---- two points of a past

pub which_first : (past b c : Past) (p q : Point) → Comes past b p → Comes past c q → Comes b c q ⊎ Comes c b p ⊎ ((b ≡ c) × (p ≡ q))
which_first past b c p q newest newest = inr (inr (refl, refl))
which_first past b c p q newest (older d) = inl d
which_first past b c p q (older d) newest = inr (inl d)
which_first past b c p q (older {past = rest} d) (older e) = which_first rest b c p q d e

pub comes_on : (past b c : Past) (p q : Point) → Comes past b p → Comes b c q → Comes past c q
comes_on past b c p q newest d = older d
comes_on past b c p q (older {past = rest} h) d = older (comes_on rest b c p q h d)

pub point_within : (past b : Past) (p q : Point) → Comes past b p → Contains (p ∷ b) q → Contains past q
point_within past b p q newest c = c
point_within past b p q (older {past = rest} {q = r} h) c = contains-tail r rest q (point_within rest b p q h c)

pub node_within : GrowthKeeps → (past b : Past) (p : Point) (n : Node) → Comes past b p → Contains (nodes (p ∷ b)) n → Contains (nodes past) n
node_within keeps past b p n h c = let s = split_at past b p h in old_has keeps past s.0 (p ∷ b) s.1 n c

-- ---- the past before a submit

number_is : (past : Past) (p : Point) (d : Action) → IsTrue (is_some (host_of d)) → Follows past p d → p.entry ≡ length (entries past)
number_is past p (Host x) h f = ap (λ (q : Point). q.entry) f
number_is past p (Wait w) h f = absurd cc
number_is past p (Run c) h f = absurd cc
number_is past p (Signal s) h f = absurd cc

pub until_there : (past : Past) → IsOrdered past → (e : ℕ) (x : Entry) → Contains past (host e x) → Comes past (until e past) (host e x)
until_there [] o e x c = absurd (none_in (host e x) c)
until_there (p ∷ past) o e x c = go (p.entry == e && is_some (host_of p.action)) refl (until_there past o.1 e x) (contains-cons p past (host e x) c)
  where
    twice : IsTrue (p.entry == e && is_some (host_of p.action)) → Contains past (host e x) → ⊥
    twice h old =
        let parts = and_parts (p.entry == e) (is_some (host_of p.action)) h in
        let same = eqb-true p.entry e parts.0 in
        let number = number_is past p p.action parts.1 o.0 in
        let lt : e < length (entries past) = entry_below past o.1 (host e x) old in
        omega (arith, same, number, lt)

    own : p ≡ host e x → IsTrue (p.entry == e && is_some (host_of p.action))
    own same = subst (λ (q : Point). IsTrue (q.entry == e && is_some (host_of q.action))) (sym same) (rw (eq-eqb e e refl) refl)

    go : (b : Bool) → (p.entry == e && is_some (host_of p.action)) ≡ b → (Contains past (host e x) → Comes past (until e past) (host e x)) → (p ≡ host e x) ⊎ Contains past (host e x)
        → Comes (p ∷ past) (if b then past else until e past) (host e x)
    go true h rest (inl same) = subst (λ (q : Point). Comes (p ∷ past) past q) same newest
    go true h rest (inr old) = absurd (twice h old)
    go false h rest (inl same) = clash (own same) h
    go false h rest (inr old) = older (rest old)
