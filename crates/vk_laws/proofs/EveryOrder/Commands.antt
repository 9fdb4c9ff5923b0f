-- The meaning of whole commands is a model of their pieces.
use Rattle.std.proofs.Common.{◌≡◌, ℕ, Bool, true, false, cond, Option, Some, None, refl, subst}
use Rattle.vk_model.specs.World.Bytes.{Byte}
use Rattle.vk_model.specs.World.ByteWrites.{Value, From}
use Rattle.vk_laws.specs.Machine.{Task, Put, Puts, Unknown, TraceAccesses, put_value, IsModel}
use Rattle.vk_laws.specs.Commands.{Effects, left_by, set_by, meaning, IsCut}

not_lost : (b : Bool) (o : Option ℕ) (v : ℕ) → cond b None o ≡ Some v → o ≡ Some v
not_lost true o v h = absurd cc
not_lost false o v h = h

module _ (fx : Effects) (tr : TraceAccesses) (cut : IsCut fx tr) where
  source_left : (n : ℕ) (model : Byte → Option ℕ) (s : Put) (v : ℕ) → put_value s (left_by fx n model) ≡ Some v → put_value s model ≡ Some v
  source_left n model (Puts (Value k)) v h = h
  source_left n model (Puts (From d)) v h = not_lost (fx.loses n d) (model d) v h
  source_left n model Unknown v h = h

  pub is_model : IsModel tr (meaning fx)
  is_model = record {
    undefined = λ c. refl;
    written = λ t c s v e h.
        let n = t.node in
        source_left n (meaning fx n) s v (subst (λ (o : Option (Put)). set_by o (left_by fx n (meaning fx n)) c ≡ Some v) (cut.within t c s e) h);
    kept = λ n c v none h. go n c v none (fx.writes n c) refl h;
  }
    where
      go : (n : ℕ) (c : Byte) (v : ℕ) → ((t : Task) → t.node ≡ n → tr.write_of t c ≡ None) → (o : Option (Put)) → fx.writes n c ≡ o → set_by o (left_by fx n (meaning fx n)) c ≡ Some v → meaning fx n c ≡ Some v
      go n c v none None e h = not_lost (fx.loses n c) (meaning fx n c) v h
      go n c v none (Some s) e h = let t = cut.covered n c s e in let no = none t.0 t.1 in let yes = t.2 in absurd cc
