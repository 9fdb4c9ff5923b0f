use Rattle.std.proofs.Common.{refl, sym, subst}
use Rattle.vk_model.specs.Trace.Point.{Past}
use Rattle.vk_model.specs.Trace.Objects.{live}
use Rattle.vma_defrag.specs.Bytes.{KeepsObjects}
use Rattle.vk_backing.specs.PassAllots.{StaysAllotted}
use Rattle.vk_backing.specs.Passing.{ArePassing, CopiesAgree}
use Rattle.vk_resources.specs.Allocating.{allotted}
use Rattle.vk_resources.specs.Held.{Held}
use Rattle.vk_resources.specs.Matches.{Stands}
use Rattle.vk_resources.specs.PassSteps.{KeepsCells}
use Rattle.vk_resources.proofs.CopyingParts.{recopied_consistent, recopied_stands, part_keeps, part_bytes}
use Rattle.vk_resources.proofs.resources.Resources.copy_part.Goals as goal

pub invariant_of-self : goal.invariant_of-self
invariant_of-self c =
    let s : Held = record { memory = c.self.inside.memories; backed = c.self.inside.backing; resources = c.self.inside.resources.entries; shapes = c.self.inside.shapes.entries; cache = c.self.inside.cache } in
    let h : ArePassing c.args.passes.now s.backed = subst (λ (x : Held). ArePassing c.args.passes.now x.backed) (sym c.self.view_is) c.requires.passing in
    let m : Stands c.requires.stands.0 s = subst (λ (x : Held). Stands c.requires.stands.0 x) (sym c.self.view_is) c.requires.stands.1 in
    recopied_consistent s c.self.invariant c.copy_part.new.memories (part_keeps s c.self.invariant c.args.passes.now c.copy_part.new.self h c.args.part c.copy_part.new.memories c.copy_part.ensures.copies) c.copy_part.ensures.backed

pub returns-clause-agree : goal.returns-clause-agree
returns-clause-agree c = λ agree. c.copy_part.ensures.agree (subst (λ (x : Held). CopiesAgree c.args.passes.now x.backed x.memory) (sym c.self.view_is) agree)

pub returns-clause-allots : goal.returns-clause-allots
returns-clause-allots c =
    let s : Held = record { memory = c.self.inside.memories; backed = c.self.inside.backing; resources = c.self.inside.resources.entries; shapes = c.self.inside.shapes.entries; cache = c.self.inside.cache } in
    subst (λ (x : Held). StaysAllotted (allotted x) c.args.passes.now (allotted (record s { memory = c.copy_part.new.memories })) c.copy_part.new.self) c.self.view_is c.copy_part.ensures.allots

pub returns-clause-keeps : goal.returns-clause-keeps
returns-clause-keeps c =
    let s : Held = record { memory = c.self.inside.memories; backed = c.self.inside.backing; resources = c.self.inside.resources.entries; shapes = c.self.inside.shapes.entries; cache = c.self.inside.cache } in
    let h : ArePassing c.args.passes.now s.backed = subst (λ (x : Held). ArePassing c.args.passes.now x.backed) (sym c.self.view_is) c.requires.passing in
    let m : Stands c.requires.stands.0 s = subst (λ (x : Held). Stands c.requires.stands.0 x) (sym c.self.view_is) c.requires.stands.1 in
    subst (λ (x : Held). KeepsCells x (record s { memory = c.copy_part.new.memories })) c.self.view_is (record {
      resources = refl;
      shapes = refl;
      backed = refl;
      cache = refl;
      bytes = part_bytes s c.self.invariant c.args.passes.now c.copy_part.new.self h c.args.part c.copy_part.new.memories c.copy_part.ensures.copies (live c.requires.stands.0) m.live;
    })

pub returns-clause-stands : goal.returns-clause-stands
returns-clause-stands c =
    let s : Held = record { memory = c.self.inside.memories; backed = c.self.inside.backing; resources = c.self.inside.resources.entries; shapes = c.self.inside.shapes.entries; cache = c.self.inside.cache } in
    let h : ArePassing c.args.passes.now s.backed = subst (λ (x : Held). ArePassing c.args.passes.now x.backed) (sym c.self.view_is) c.requires.passing in
    let keeps : KeepsObjects s.memory c.copy_part.new.memories = part_keeps s c.self.invariant c.args.passes.now c.copy_part.new.self h c.args.part c.copy_part.new.memories c.copy_part.ensures.copies in
    subst (λ (x : Held). (past : Past) → Stands past x → Stands past (record s { memory = c.copy_part.new.memories })) c.self.view_is
    (λ past m. recopied_stands s c.self.invariant c.copy_part.new.memories keeps c.copy_part.ensures.backed past m)
