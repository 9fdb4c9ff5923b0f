use Rattle.std.proofs.Common.{arith, ◌≡◌, ◌+◌, ◌<◌, length, get_or, length-set, refl, sym, ap, ◌∙◌}
use Rattle.vk_image_bytes.proofs.Levels.{level_zero, few_below, few_in_level, firsts_more}
use Rattle.vk_image_bytes.proofs.image_bytes.level_firsts.Goals as goal

pub overflow_add-firsts : goal.overflow_add-firsts
overflow_add-firsts c =
    let n = c.loop-level.level in
    omega (arith, c.level_byte_count.ensures, c.loop-level.invariant.firsts n (omega arith), few_below c.args.image.now n c.requires, few_in_level c.args.image.now n c.requires)

pub loop-level-preserved : goal.loop-level-preserved
loop-level-preserved c =
    let n = c.loop-level.level in
    let firsts = c.loop-level.firsts in
    let next = get_or firsts n 0 + c.level_byte_count.result in
    let len = c.loop-level.invariant.len in
    let room : n + 1 < length firsts = omega (arith, len, c.loop-level-test.true) in
    record {
      len = length-set firsts (n + 1) next ∙ len;
      firsts = firsts_more c.args.image.now firsts n next c.loop-level.invariant.firsts room (ap (λ s. get_or firsts n 0 + s) c.level_byte_count.ensures);
    }

pub loop-level-init : goal.loop-level-init
loop-level-init c = record { len = refl; firsts = λ k le. (let none : k ≡ 0 = omega arith in rw none (sym (level_zero c.args.image.now))) }
