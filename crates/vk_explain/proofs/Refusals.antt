-- What the text on a refused trace says, by its parts.
use Rattle.std.proofs.Common.{◌≡◌, ℕ, List, ◌++◌, Option, ap, sym, ◌∙◌, subst, append_assoc}
use Rattle.vk_model.specs.declared.entry.Entry.{Entry}
use Rattle.vk_model.specs.declared.rule.At.{At}
use Rattle.vk_model.specs.declared.rule.Rule.{Rule}
use Rattle.vk_words.specs.Points.{kind_text, at_text, BeginsWith}
use Rattle.vk_trace.specs.declared.printing.Outcome.TheVariants.{Refused}
use Rattle.vk_trace.specs.Text.{lines_of}
use Rattle.vk_hazards.specs.declared.facts.Fact.{Fact}
use Rattle.vk_hazards.specs.Facts.{IsReportedOf}
use Rattle.vk_hazards.specs.declared.links.Links.{Links}
use Rattle.vk_fact_words.specs.FactText.{fact_line, fact_member}
use Rattle.vk_hazards.specs.Faults.{AreLinksOf}
use Rattle.vk_fact_words.specs.LinksText.{links_line, links_member}
use Rattle.vk_explain.specs.Explained.{rule_line, json_verdict, IsRefusalText, IsRefusalJson}
use Rattle.vk_explain.proofs.Joins.{goes_on}

grouped : (l p r f k : List ℕ) → l ++ (p ++ (r ++ (f ++ k))) ≡ l ++ p ++ r ++ f ++ k
grouped l p r f k = sym (append_assoc ((l ++ p) ++ r) f k ∙ append_assoc (l ++ p) r (f ++ k) ∙ append_assoc l p (r ++ (f ++ k)))

-- as lines
pub text_is : (entries : List Entry) → (at : At) → (rule : Rule) → (fact : Option Fact) → (links : Option Links) → (p q x y t0 t1 t2 t3 t4 : List ℕ)
    → BeginsWith (kind_text at ++ at_text at) p → IsReportedOf entries at rule fact → AreLinksOf entries at fact links
    → t0 ≡ lines_of (Refused at rule) → t1 ≡ t0 ++ p → q ≡ rule_line rule ++ (fact_line fact ++ links_line links) → t2 ≡ t1 ++ q → t3 ≡ t2 ++ x → t4 ≡ t3 ++ y
    → IsRefusalText entries at rule t4
text_is entries at rule fact links p q x y t0 t1 t2 t3 t4 named so linked a b ruled c d e = record {
  point = p;
  fact = fact;
  links = links;
  named = named;
  so = so;
  linked = linked;
  reported =
      let P : List ℕ → Type 0 = λ r. BeginsWith (lines_of (Refused at rule) ++ (p ++ r)) t4 in
      let Q : List ℕ → Type 0 = λ s. BeginsWith s t4 in
      subst Q (grouped (lines_of (Refused at rule)) p (rule_line rule) (fact_line fact) (links_line links)) (subst P ruled (goes_on (lines_of (Refused at rule)) p q x y t0 t1 t2 t3 t4 a b c d e));
}

-- as an object
pub json_is : (entries : List Entry) → (at : At) → (rule : Rule) → (fact : Option Fact) → (links : Option Links) → (x t0 t1 : List ℕ)
    → IsReportedOf entries at rule fact → AreLinksOf entries at fact links
    → t0 ≡ json_verdict at rule ++ (fact_member fact ++ links_member links) → t1 ≡ t0 ++ x
    → IsRefusalJson entries at rule t1
json_is entries at rule fact links x t0 t1 so linked a b = record {
  fact = fact;
  links = links;
  so = so;
  linked = linked;
  reported = record { rest = x; whole = b ∙ ap (λ s. s ++ x) (a ∙ sym (append_assoc (json_verdict at rule) (fact_member fact) (links_member links))) };
}
