use Rattle.std.proofs.Common.{◌≡◌, ℕ, ◌+◌, ◌-◌, ◌%◌, ◌^◌, ◌<◌, ◌≤◌, List, [], get_or, sym, ap, ◌∙◌, ap₂, inl, inr, mod-eq_of_lt, arith}
use Rattle.std.proofs.lemmas.Bool.{cases_lt}
use Rattle.sizes.specs.Sizes.{levels, bits}
use Rattle.lmots.specs.LmOts.{public_key}
use Rattle.lms.specs.Lms.{leaf_node}
use Rattle.sizes.proofs.Heights.{keys_most}
use Rattle.lms.proofs.Coding.{eights}
use Rattle.lms.proofs.Trees.{leaves_filled}
use Rattle.lms.proofs.growing.fill_leaves.Goals as goal

-- the leaves below a key, and eight more
more : (leaf : ℕ → List ℕ → List ℕ) (P : ℕ → List ℕ) (first key : ℕ) (old new keys : List (List ℕ)) → key + 8 ≤ 2 ^ 16 →
    ((q : ℕ) → q < key → get_or old (first + q) [] ≡ leaf (first + q) (P q)) →
    ((l : ℕ) → l < 8 → get_or keys l [] ≡ P ((key + l) % 2 ^ 32)) →
    ((l : ℕ) → l < 8 → get_or new (first + key + l) [] ≡ leaf (first + key + l) (get_or keys l [])) →
    ((m : ℕ) → m < first + key → get_or new m [] ≡ get_or old m []) →
    (q : ℕ) → q < key + 8 → get_or new (first + q) [] ≡ leaf (first + q) (P q)
more leaf P first key old new keys low before made eight kept q h =
    elim (cases_lt q key) [
      | inl l ↦ kept (first + q) (omega arith) ∙ before q l
      | inr l ↦
          let k : ℕ = q - key in
          let e : first + key + k ≡ first + q = omega arith in
          let d : key + k ≡ q = omega arith in
          let small : key + k < 2 ^ 32 = omega arith in
          ap (λ n. get_or new n []) (sym e) ∙ eight k (omega arith) ∙ ap₂ leaf e (made k (omega arith) ∙ ap P (mod-eq_of_lt small ∙ d))
    ]

pub loop-key-preserved : goal.loop-key-preserved
loop-key-preserved g c =
    let a = c.args in
    let H = g.H.Hash.hashed in
    let z = eights a.height in
    let f = keys_most a.height in
    record {
      whole = omega (arith, c.loop-key.invariant.whole);
      there = more (leaf_node H a.origin.id.bytes) (public_key H a.origin.id.bytes a.origin.seed.bytes (bits a.width)) c.keys-first.result c.loop-key.key c.loop-key.nodes c.fill_eight.new.nodes c.public_keys-keys.result
          (omega arith) c.loop-key.invariant.there c.public_keys-keys.ensures c.fill_eight.ensures.new c.fill_eight.ensures.old;
    }

pub returns : goal.returns
returns g c =
    let a = c.args in
    let H = g.H.Hash.hashed in
    let P = public_key H a.origin.id.bytes a.origin.seed.bytes (bits a.width) in
    let e : c.keys-first.result ≡ 2 ^ levels a.height = c.keys-first.ensures in
    leaves_filled H a.origin.id.bytes a.origin.seed.bytes (levels a.height) (bits a.width) c.loop-key.nodes
    (λ q l.
    ap (λ n. get_or c.loop-key.nodes (n + q) []) (sym e) ∙ c.loop-key.invariant.there q (omega arith)
    ∙ ap (λ n. leaf_node H a.origin.id.bytes (n + q) (P q)) e)

pub returns-2 : goal.returns-2
returns-2 g c =
    let a = c.args in
    let H = g.H.Hash.hashed in
    let P = public_key H a.origin.id.bytes a.origin.seed.bytes (bits a.width) in
    let e : c.keys-first.result ≡ 2 ^ levels a.height = c.keys-first.ensures in
    let f = keys_most a.height in
    leaves_filled H a.origin.id.bytes a.origin.seed.bytes (levels a.height) (bits a.width) c.fill_eight.new.nodes
    (λ q l.
    ap (λ n. get_or c.fill_eight.new.nodes (n + q) []) (sym e)
    ∙ more (leaf_node H a.origin.id.bytes) P c.keys-first.result c.loop-key.key c.loop-key.nodes c.fill_eight.new.nodes c.public_keys-keys.result
    (omega arith) c.loop-key.invariant.there c.public_keys-keys.ensures c.fill_eight.ensures.new c.fill_eight.ensures.old q (omega arith)
    ∙ ap (λ n. leaf_node H a.origin.id.bytes (n + q) (P q)) e)
