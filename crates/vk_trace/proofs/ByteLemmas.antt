-- What a loop of reads or writes did to the known bytes.
use Rattle.std.proofs.Common.{◌≡◌, ℕ, ◌≤◌, ◌+◌, ◌<◌, List, [], ◌++◌, length, take, drop, Option, Some, None, IfSome, refl, ap, ◌∙◌, append-nil, arith, length-append, subst, ◌-◌, Bool, true, false, IsTrue, length-drop}
use Rattle.std.proofs.lemmas.List.{take_all}
use Rattle.std.proofs.Math.Seq.{take-add}
use Rattle.std.proofs.KnownBytes.{Appends-trans}
use Rattle.std.specs.Io.KnownBytes.{Consumes, Appends, IsAtEnd}

-- a reader at its end gave all that it had
pub all_read : (a b c : Option (List ℕ)) (bs : List ℕ) → Consumes a b bs → Consumes b c [] → IsAtEnd c → IfSome a (λ input. input ≡ bs)
all_read None b c bs p q e = tt
all_read (Some x) None c bs p q e = absurd p
all_read (Some x) (Some y) None bs p q e = absurd q
all_read (Some x) (Some y) (Some z) bs p q e = p ∙ ap (λ l. bs ++ l) (q ∙ e) ∙ append-nil bs

-- who gave many bytes had many
pub had_many : (n : ℕ) (a b : Option (List ℕ)) (bs : List ℕ) → Consumes a b bs → n ≤ length bs → IfSome a (λ input. n ≤ length input)
had_many n None b bs p h = tt
had_many n (Some x) None bs p h = absurd p
had_many n (Some x) (Some y) bs p h = omega (arith, ap length p, length-append bs y)

-- what follows from a fact of the value in an option
pub if_some : {A : Type 0} {P Q : A → Type 0} (a : Option A) → ((x : A) → P x → Q x) → IfSome a P → IfSome a Q
if_some None f p = tt
if_some (Some x) f p = f x p

-- a read of no bytes, with room for some, comes at the end
pub all_read_at : (a b c : Option (List ℕ)) (bs buf : List ℕ) (n : ℕ) → n ≡ 0 → 0 < length buf → Consumes a b bs
    → Consumes b c (take n buf) × (n ≡ 0 → 0 < length buf → IsAtEnd c) → IfSome a (λ input. input ≡ bs)
all_read_at a b c bs buf n e lt p h = all_read a b c bs p (subst (λ m. Consumes b c (take m buf)) e h.0) (h.1 e lt)

-- a write of the rest took its front
pub written_more : (a b c : Option (List ℕ)) (bytes : List ℕ) (written n : ℕ) → Appends a b (take written bytes)
    → Appends b c (take n (take (length bytes - written) (drop written bytes))) → Appends a c (take (written + n) bytes)
written_more a b c bytes written n p q =
    let le : length (drop written bytes) ≤ length bytes - written = omega (arith, length-drop written bytes) in
    let rest : take (length bytes - written) (drop written bytes) ≡ drop written bytes = take_all _ _ le in
    rw (take-add written n bytes) (Appends-trans a b c _ _ p (rw rest at q))

-- a test that is not true is false
pub not_true : (b : Bool) → (IsTrue b → ⊥) → b ≡ false
not_true true h = absurd (h refl)
not_true false h = refl
