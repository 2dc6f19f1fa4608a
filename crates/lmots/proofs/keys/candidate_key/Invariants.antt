use Rattle.std.proofs.Common.{◌≡◌, ◌-◌, ◌^◌, ◌++◌}
use Rattle.rows.specs.Bytes.{u16str, u32str, rows, row_at}
use Rattle.sizes.specs.Sizes.{bits}
use Rattle.lmots.specs.LmOts.{chain, digit}
use Rattle.lmots.proofs.keys.candidate_key.Given as goal

abbrev pub invariant-loop-i : goal.invariant-loop-i
invariant-loop-i g l =
    g.H.Hash.state l.key
    ≡ g.H.Hash.fed g.H.Hash.first
    (l.id.bytes ++ u32str l.q ++ u16str 0x8080
    ++ rows l.i
    (λ i. chain g.H.Hash.hashed l.id.bytes l.q i (digit (bits l.fn.width) l.digest i) (2 ^ bits l.fn.width - 1 - digit (bits l.fn.width) l.digest i) (row_at i l.rows)))
