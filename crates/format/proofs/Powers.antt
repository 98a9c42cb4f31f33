-- How many functions of up to three bits there are, by shifts.
use Rattle.std.proofs.Common.{◌≡◌, ℕ, zero, suc, ◌*◌, ◌%◌, ◌^◌, ◌<◌, ◌≤◌, refl, arith}
use Rattle.std.proofs.Common.{pow_mono}

pub bits_few : (k : ℕ) → k ≤ 3 → 1 * 2 ^ k % 4294967296 < 16
bits_few zero h = omega arith
bits_few (suc zero) h = omega arith
bits_few (suc (suc zero)) h = omega arith
bits_few (suc (suc (suc zero))) h = omega arith
bits_few (suc (suc (suc (suc k)))) h = absurd (omega arith)

pub shifted : (k : ℕ) → k ≤ 3 → 1 * 2 ^ (1 * 2 ^ k % 4294967296) % 65536 ≡ 2 ^ 2 ^ k
shifted zero h = refl
shifted (suc zero) h = refl
shifted (suc (suc zero)) h = refl
shifted (suc (suc (suc zero))) h = refl
shifted (suc (suc (suc (suc k)))) h = absurd (omega arith)

pub wide : (k b : ℕ) → 3 ≤ k → b < 256 → b < 2 ^ 2 ^ k
wide k b h l =
    let p : 2 ^ 3 ≤ 2 ^ k = pow_mono {i = 3} {j = k} h in
    let q : 2 ^ 8 ≤ 2 ^ 2 ^ k = pow_mono {i = 8} {j = 2 ^ k} p in
    omega arith
