use Rattle.std.proofs.Common.{◌<◌, ◌^◌, sym, ◌∙◌, arith}
use Rattle.vk_trace.proofs.NumberLemmas.{whole_read, digits_read}
use Rattle.vk_trace.proofs.tokens.whole_number.Goals as goal

pub returns-in-Some : goal.returns-in-Some
returns-in-Some c =
    let fits : c.in-Some.number < 2 ^ 64 = omega arith in
    digits_read _ _ c.in-Some.number c.as_bytes-bytes.ensures.value c.in-Some.ensures.0 c.in-Some.ensures.1 fits

pub returns-in-Some-to_u64 : goal.returns-in-Some-to_u64
returns-in-Some-to_u64 c = sym (whole_read _ _ c.scan.result c.to_u64.result c.as_bytes-bytes.ensures.value c.scan.ensures.parts c.to_u64.ensures) ∙ c.in-Some-to_u64.is

pub returns-in-None : goal.returns-in-None
returns-in-None c = sym (whole_read _ _ c.scan.result c.to_u64.result c.as_bytes-bytes.ensures.value c.scan.ensures.parts c.to_u64.ensures) ∙ c.in-None.is
