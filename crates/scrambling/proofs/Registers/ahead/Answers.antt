-- `Registers::ahead` meets its contract: the laws `ahead1` and `ahead2` of the registers, at 16 terms.
-- Assumes nothing.
use native.Mathlib.Nat.{mod-lt}
use lib.Bits.{bit_and, bit_xor, and_mask}
use lib.Pow.{pow_pos, shl_exact}
use Rattle.std.proofs.Common.{ℕ, ◌≡◌, ◌+◌, ◌*◌, ◌/◌, ◌%◌, ◌^◌, arith, refl, sym, ap, ◌∙◌}
use Rattle.nr.proofs.Scrambling.{ahead1, ahead2}
use Rattle.scrambling.proofs.Registers.ahead.Goals as goal

-- what stays goes down, and the shift loses none of the 16 new terms
joined : (s w : ℕ) → s / 2 ^ 16 + (bit_and w 0xffff * 2 ^ 15) % 2 ^ 32 ≡ s / 2 ^ 16 + w % 2 ^ 16 * 2 ^ 15
joined s w =
    ap (λ (y : ℕ). s / 2 ^ 16 + y)
    (ap (λ (y : ℕ). (y * 2 ^ 15) % 2 ^ 32) (and_mask w 16) ∙ shl_exact {a = w % 2 ^ 16} 16 15 32 (mod-lt w (pow_pos 16)) (omega arith))

pub returns : goal.returns
returns c =
    let s = c.args.self in
    let t = bit_xor s.x2 (s.x2 / 2 ^ 1) in (
      joined s.x1 (bit_xor s.x1 (s.x1 / 2 ^ 3)) ∙ sym (ahead1 s.x1 16 15 refl (omega arith)),
      joined s.x2 (bit_xor t (t / 2 ^ 2)) ∙ sym (ahead2 s.x2 16 15 refl (omega arith)),
    )
