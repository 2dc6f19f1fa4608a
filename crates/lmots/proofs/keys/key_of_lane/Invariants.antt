use Rattle.std.proofs.Common.{◌≡◌, [], ◌++◌, get_or}
use Rattle.rows.specs.Bytes.{u16str, u32str, rows}
use Rattle.lmots.proofs.keys.key_of_lane.Given as goal

abbrev pub invariant-loop-rows : goal.invariant-loop-rows
invariant-loop-rows g l =
    g.H.Hash.state l.key
    ≡ g.H.Hash.fed g.H.Hash.first (l.fn.id.bytes ++ u32str l.q ++ u16str 0x8080 ++ rows l.rows-index (λ i. get_or (get_or l.ends i []) l.l []))
