use Rattle.std.proofs.Common.{◌≡◌, ℕ, [], ◌++◌, get_or, take, ap, ◌∙◌, rules}
use Rattle.rows.specs.Bytes.{u8str, u16str, u32str}
use Rattle.arrays.proofs.Made.{made}
use Rattle.lmots.specs.Lanes.{chain_at}
use Rattle.lmots.proofs.Eight.{pieces}
use Rattle.lmots.proofs.lanes.Lanes.step.Goals as goal

pub returns : goal.returns
returns g c l h =
    let s = c.args.self.now in
    let place = λ (k : ℕ). u32str (chain_at k s.chains).q ++ u16str (chain_at k s.chains).i in
    let row = λ (k : ℕ). get_or c.args.rows.now k [] in
    let tails = made _ 8 (λ k v. take 39 v ≡ place k ++ u8str c.args.j ++ row k) _ (λ k r q b called. search rules) c.from_fn-tails.result c.from_fn-tails.ensures.items l [] h in
    c.each.ensures l h ∙ ap (λ m. g.H.Hash.closed (g.H.Hash.fed (g.H.Hash.state s.head) m)) tails
    ∙ s.goes_on (place l ++ u8str c.args.j ++ row l)
    ∙ ap g.H.Hash.hashed (pieces s.id.bytes (u32str (chain_at l s.chains).q) (u16str (chain_at l s.chains).i) (u8str c.args.j) (row l))
