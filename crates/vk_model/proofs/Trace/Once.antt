-- No two points of an ordered past are reported alike. Other crates cite it.
use Rattle.std.proofs.Common.{◌≡◌, ◌⊎◌, inl, inr, ℕ, ◌<◌, [], ◌∷◌, length, None, refl, ap, sym, ◌∙◌, subst, arith}
use Rattle.std.specs.Prelude.{Contains}
use Rattle.vk_model.specs.declared.entry.Entry.{Entry}
use Rattle.vk_model.specs.declared.entry.Entry.TheVariants as entry
use Rattle.vk_model.specs.declared.rule.At.TheVariants as at
use Rattle.vk_model.specs.Trace.Point.{Point, Past, Action, Host, Wait, Run, Signal, host_of, entries, label, at_of}
use Rattle.vk_model.specs.Trace.Order.{host}
use Rattle.vk_model.specs.Trace.Structure.{turn, IsEarlier, by_entry, by_batch, by_turn, by_place, IsOfBatch, Follows, IsOrdered}
use Rattle.vk_model.specs.Rules.Fault.{Comes, newest, older}
use Rattle.vk_model.proofs.Lists.Members.{none_in, contains-cons, contains-tail}
use Rattle.vk_model.proofs.Trace.Structure.{entry_below, follows_at}
use Rattle.vk_model.proofs.Trace.Older.{comes_of}

pub was_before : (past before : Past) (p q : Point) → Comes past before p → Contains before q → Contains past q
was_before past before p q newest c = contains-tail p before q c
was_before past before p q (older {past = rest} {q = r} come) c = contains-tail r rest q (was_before rest before p q come c)

-- of each number there is one host entry
pub entry_once : (past : Past) → IsOrdered past → (e : ℕ) (x y : Entry) → Contains past (host e x) → Contains past (host e y) → x ≡ y
entry_once [] o e x y c d = absurd (none_in (host e x) c)
entry_once (p ∷ past) o e x y c d = go (entry_once past o.1 e x y) (contains-cons p past (host e x) c) (contains-cons p past (host e y) d)
  where
    one : (x : Entry) → p ≡ host e x → Contains past (host e y) → ⊥
    one x same old =
        let f : p ≡ host (length (entries past)) x = subst (λ (d : Action). Follows past p d) (ap (λ (m : Point). m.action) same) o.0 in
        let number : e ≡ length (entries past) = ap (λ (m : Point). m.entry) (sym same ∙ f) in
        let lt : e < length (entries past) = entry_below past o.1 (host e y) old in
        omega (arith, number, lt)

    two : (y : Entry) → p ≡ host e y → Contains past (host e x) → ⊥
    two y same old =
        let f : p ≡ host (length (entries past)) y = subst (λ (d : Action). Follows past p d) (ap (λ (m : Point). m.action) same) o.0 in
        let number : e ≡ length (entries past) = ap (λ (m : Point). m.entry) (sym same ∙ f) in
        let lt : e < length (entries past) = entry_below past o.1 (host e x) old in
        omega (arith, number, lt)

    go : (Contains past (host e x) → Contains past (host e y) → x ≡ y) → (p ≡ host e x) ⊎ Contains past (host e x) → (p ≡ host e y) ⊎ Contains past (host e y) → x ≡ y
    go rest (inl a) (inl b) = let same : Host x ≡ Host y = ap (λ (m : Point). m.action) (sym a ∙ b) in cc
    go rest (inl a) (inr old) = absurd (one x a old)
    go rest (inr old) (inl b) = absurd (two y b old)
    go rest (inr a) (inr b) = rest a b

-- a point isn't before itself in submission order
not_earlier : (q p : Point) → q.entry ≡ p.entry → q.batch ≡ p.batch → turn q.action ≡ turn p.action → q.place ≡ p.place → IsEarlier q p → ⊥
not_earlier q p e b t k (by_entry x) = omega (arith, e, x)
not_earlier q p e b t k (by_batch x y) = omega (arith, b, y)
not_earlier q p e b t k (by_turn x y z) = omega (arith, t, z)
not_earlier q p e b t k (by_place x y z w) = omega (arith, k, w)

pub come_once : (past before : Past) (p q : Point) → IsOrdered past → Comes past before p → Contains before q → at_of q ≡ at_of p → ⊥
come_once past before p q ordered come c alike = go q.action p.action refl refl here.0 was.0 alike
  where
    here : Follows before p p.action × IsOrdered before
    here = follows_at past before p ordered come

    place : (older : Past) × Comes before older q
    place = comes_of before q c

    was : Follows place.0 q q.action × IsOrdered place.0
    was = follows_at before place.0 q here.1 place.1

    -- two points of batches that are reported alike
    twice : host_of q.action ≡ None → turn q.action ≡ turn p.action → q.entry ≡ p.entry → q.batch ≡ p.batch → q.place ≡ p.place → IsOfBatch before p → IsOfBatch place.0 q → ⊥
    twice quiet same_turn e b k f g =
        let first : Contains before (host p.entry (entry.Submit q.queue g.batches)) = subst (λ (n : ℕ). Contains before (host n (entry.Submit q.queue g.batches))) e (was_before before place.0 q _ place.1 g.submitted) in
        let one : entry.Submit q.queue g.batches ≡ entry.Submit p.queue f.batches = entry_once before here.1 p.entry _ _ first f.submitted in
        let queues : q.queue ≡ p.queue = cc in
        not_earlier q p e b same_turn k (f.in_order q c quiet queues)

    go : (d e : Action) → q.action ≡ d → p.action ≡ e → Follows before p e → Follows place.0 q d → label q d ≡ label p e → ⊥
    go d (Host x) is_q is_p f g same = host_twice d is_q same (ap (λ (m : Point). m.entry) f)
      where
        host_twice : (d : Action) → q.action ≡ d → label q d ≡ at.Entry p.entry → p.entry ≡ length (entries before) → ⊥
        host_twice (Host y) is_q same number = let e : q.entry ≡ p.entry = cc in let lt = entry_below before here.1 q c in omega (arith, e, lt, number)
        host_twice (Wait w) is_q same number = cc
        host_twice (Run c) is_q same number = cc
        host_twice (Signal s) is_q same number = cc
    go (Wait v) (Wait w) is_q is_p f g same = twice (ap host_of is_q) (ap turn is_q ∙ sym (ap turn is_p)) (cc) (cc) (cc) f g
    go (Run v) (Run w) is_q is_p f g same = twice (ap host_of is_q) (ap turn is_q ∙ sym (ap turn is_p)) (cc) (cc) (cc) f g
    go (Signal v) (Signal w) is_q is_p f g same = twice (ap host_of is_q) (ap turn is_q ∙ sym (ap turn is_p)) (cc) (cc) (cc) f g
    go _ _ is_q is_p f g same = cc
