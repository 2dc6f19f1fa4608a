use Rattle.std.proofs.Common.{refl}
use Rattle.simd_lanes.proofs.Ops.{same}
use Rattle.keccak.specs.Fips202.{chi}
use Rattle.keccak.proofs.rounds.chi.Goals as goal

pub returns : goal.returns
unfolding chi
returns g c i h =
    (same (c.bent.ensures i h)
    (same (c.bent-2.ensures i h)
    (same (c.bent-3.ensures i h)
    (same (c.bent-4.ensures i h)
    (same (c.bent-5.ensures i h)
    (same (c.bent-6.ensures i h)
    (same (c.bent-7.ensures i h)
    (same (c.bent-8.ensures i h)
    (same (c.bent-9.ensures i h)
    (same (c.bent-10.ensures i h)
    (same (c.bent-11.ensures i h)
    (same (c.bent-12.ensures i h)
    (same (c.bent-13.ensures i h)
    (same (c.bent-14.ensures i h)
    (same (c.bent-15.ensures i h)
    (same (c.bent-16.ensures i h)
    (same (c.bent-17.ensures i h)
    (same (c.bent-18.ensures i h)
    (same (c.bent-19.ensures i h)
    (same (c.bent-20.ensures i h)
    (same (c.bent-21.ensures i h)
    (same (c.bent-22.ensures i h)
    (same (c.bent-23.ensures i h)
    (same (c.bent-24.ensures i h)
    (same (c.bent-25.ensures i h)
    refl)))))))))))))))))))))))))
