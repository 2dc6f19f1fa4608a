-- The checks of a whole table, by those of its keys' parts.
use Rattle.std.proofs.Common.{◌≡◌, ℕ, ◌*◌, ◌<◌, ◌≤◌, ◌+◌, Bool, true, false, eqb, leb, List, [], ◌∷◌, ◌++◌, length, get_or, Some, None, Option, sym, refl, ap, ◌∙◌, ⊎_elim, arith}
use Rattle.std.specs.List.{list_all, range_with_len}
use Rattle.std.specs.Option.{option_map}
use Rattle.std.proofs.lemmas.Option.{none-some}
use Rattle.std.proofs.lemmas.Bool.{true≢false, cases_Bool, and_parts, leb-true, eqb-true}
use Rattle.std.proofs.lemmas.List.FromFn.{length-range_with_len, get_or-range_with_len, map-range_with_len_more}
use Rattle.std.proofs.lemmas.List.{map-id}
use Rattle.std.proofs.lemmas.List.Sums.{AllPass-from_list_all, list_all-from_AllPass}
use Rattle.checks.specs.Checks.{first_refusal}
use Rattle.checks.proofs.Ordered.{passed}
use Rattle.plan.specs.Shape.{Shape}
use Rattle.plan.specs.Keys.{owner, Owns}
use Rattle.plan.specs.View.{view}
use Rattle.plan.specs.declared.plans.Plan.{Plan}
use Rattle.plan.proofs.Found.{view_groups, plan_ranges}
use Rattle.plan.specs.Laws.{Ranges}
use Rattle.layout.specs.Table.{table_rows}
use Rattle.pads.specs.Source.{Source}
use Rattle.splitting.specs.declared.refusal.Refusal.TheVariants as split
use Rattle.splitting.specs.Sources.{distinct, all_hold}
use Rattle.splitting.specs.Split.{members_of, of_owner, split_checks}
use Rattle.dealer.specs.declared.refusal.Refusal.{Refusal}
use Rattle.dealer.specs.declared.refusal.Refusal.TheVariants.{Sources, SameChecks, Buffer, NotHeld}
use Rattle.dealer.specs.Refusals.{handed_on}
use Rattle.dealer.specs.Tabled.{part_refusal, dealt_keys, all_keys, held_by_owner, table_checks, AllDealt}

-- a key's four checks, and the whole table's
abbrev of_key : Bool → Bool → Bool → Bool → Option Refusal
of_key a b c h = option_map handed_on (first_refusal ((a, split.Sources) ∷ (b, split.SameChecks) ∷ (true, split.Undealt) ∷ (c, split.Buffer) ∷ (h, split.NotHeld) ∷ []))

abbrev of_table : Bool → Bool → Bool → Bool → Option Refusal
of_table a b c h = first_refusal ((a, Sources) ∷ (b, SameChecks) ∷ (c, Buffer) ∷ (h, NotHeld) ∷ [])

-- a key that is refused: so is the table
key_fails : (a b c h all : Bool) (e : Refusal) → (h ≡ false → all ≡ false) → of_key a b c h ≡ Some e → of_table a b c all ≡ Some e
key_fails false b c h all e f r = r
key_fails true false c h all e f r = r
key_fails true true false h all e f r = r
key_fails true true true false all e f r = ap (of_table true true true) (f refl) ∙ r
key_fails true true true true all e f r = absurd (none-some e r)

-- a key that is not: then the sources and the buffer are right, and the key is held
record Passes (a b c h : Bool) : Type 0 where
  number : a ≡ true
  apart : b ≡ true
  room : c ≡ true
  held : h ≡ true

key_passes : (a b c h : Bool) → of_key a b c h ≡ None → Passes a b c h
key_passes true true true true r = record { number = refl; apart = refl; room = refl; held = refl }
key_passes false b c h r = absurd (none-some Sources (sym r))
key_passes true false c h r = absurd (none-some SameChecks (sym r))
key_passes true true false h r = absurd (none-some Buffer (sym r))
key_passes true true true false r = absurd (none-some NotHeld (sym r))

module _ (p : Shape) (r : Ranges p) (sources : List Source) (n : ℕ) where
  abbrev number : Bool
  number = eqb (length sources) p.trustees

  abbrev apart : Bool
  apart = distinct sources

  abbrev whole : Bool
  whole = eqb n (32 * table_rows p)

  abbrev held : ℕ → Bool
  held = held_by_owner p sources

  -- who owns a dealt key
  owned : (key : ℕ) → key < dealt_keys p → (g : ℕ) × (owner p key ≡ Some g)
  owned key l =
      ⊎_elim
      (λ (x : (g : ℕ) × Owns p g key). (x.0, r.owns_owner x.0 key x.1))
      (λ (x : dealt_keys p ≤ key). absurd (omega arith))
      (r.covered key (omega (arith, r.rest)))

  -- a dealt key's checks
  is_key : (key : ℕ) → key < dealt_keys p → part_refusal p sources key n ≡ of_key number apart whole (held key)
  is_key key l =
      let o = owned key l in
      ap (λ x. option_map handed_on (first_refusal (split_checks p sources key (λ _. whole) x))) o.1
      ∙ ap (λ x. of_key number apart whole (of_owner (λ g. all_hold sources (members_of p g) key) x)) (sym o.1)

  -- it is one of them
  key_at : (key : ℕ) → key < dealt_keys p → get_or (all_keys p) key 0 ≡ key
  key_at key l = get_or-range_with_len 0 (dealt_keys p) key 0 l ∙ omega arith

  -- so that the table is refused where one of its keys is
  pub refused : (key : ℕ) (e : Refusal) → key < dealt_keys p → part_refusal p sources key n ≡ Some e → first_refusal (table_checks p sources n) ≡ Some e
  refused key e l x = key_fails number apart whole (held key) (list_all held (all_keys p)) e none (sym (is_key key l) ∙ x)
    where
      none : held key ≡ false → list_all held (all_keys p) ≡ false
      none f =
          ⊎_elim
          (λ (t : list_all held (all_keys p) ≡ true).
          let here = AllPass-from_list_all held (all_keys p) t key 0 (omega (arith, length-range_with_len 0 (dealt_keys p))) in
          absurd (true≢false (sym (ap held (sym (key_at key l)) ∙ here) ∙ f)))
          (λ (t : list_all held (all_keys p) ≡ false). t)
          (cases_Bool (list_all held (all_keys p)))

  -- and not where none is
  pub accepted : 0 < dealt_keys p → ((key : ℕ) → key < dealt_keys p → part_refusal p sources key n ≡ None) → first_refusal (table_checks p sources n) ≡ None
  accepted some none =
      let each : (key : ℕ) → key < dealt_keys p → Passes number apart whole (held key) =
      λ key l. key_passes number apart whole (held key) (sym (is_key key l) ∙ none key l) in
      let one = each 0 some in
      let all : list_all held (all_keys p) ≡ true =
      list_all-from_AllPass held (all_keys p) (λ i d l.
      let m : i < dealt_keys p = omega (arith, l, length-range_with_len 0 (dealt_keys p)) in
      ap held (get_or-range_with_len 0 (dealt_keys p) i d m ∙ omega arith) ∙ (each i m).held) in
      λ t. of_table (one.number t) (one.apart t) (one.room t) (all t)

  -- a table that is not refused has its length
  pub long : first_refusal (table_checks p sources n) ≡ None → n ≡ 32 * table_rows p
  long e = eqb-true n (32 * table_rows p) (passed (table_checks p sources n) e 2 _ refl)

-- ---- all keys
-- one more
pub keys_more : (n : ℕ) → range_with_len 0 (n + 1) ≡ range_with_len 0 n ++ n ∷ []
keys_more n =
    sym (map-id (range_with_len 0 (n + 1))) ∙ map-range_with_len_more (λ (x : ℕ). x) 0 n n (omega arith)
    ∙ ap (λ ks. ks ++ n ∷ []) (map-id (range_with_len 0 n))

-- every dealt key is among them
pub all_dealt : (p : Shape) → AllDealt p (all_keys p)
all_dealt p key l = (key, omega (arith, length-range_with_len 0 (dealt_keys p)), get_or-range_with_len 0 (dealt_keys p) key key l ∙ omega arith)

-- a plan deals some keys: its first group owns key 0
pub some_keys : (p : Plan) → 0 < dealt_keys (view p)
some_keys p =
    let ranges = plan_ranges p in
    let few = leb-true 1 p.groups (and_parts (leb 1 p.groups) (leb p.groups 70) p.groups_in).0 in
    let group : 0 < length (view p).masks = omega (arith, few, view_groups p) in
    ranges.inside 0 0 (group, omega (arith, ranges.starts), omega (arith, ranges.starts, ranges.some 0 group))
