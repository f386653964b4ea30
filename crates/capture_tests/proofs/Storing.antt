-- One packet more is stored.
use Rattle.std.proofs.Common.{◌≡◌, ◌<◌, ◌≤◌, ◌+◌, ℕ, List, [], ◌∷◌, ◌++◌, length, get_or, All, pos, ◌≤ℤ◌, sym, ◌∙◌, ap, subst, arith}
use Rattle.std.proofs.lemmas.List.{get_or-map, length-map, length_push, map_push}
use Rattle.std.proofs.lemmas.List.Elements.{All-nil, All-push, All-weaker}
use Rattle.std.proofs.lemmas.List.Quantifiers.{all_pairs_push}
use Rattle.report.specs.declared.merge.MergeKey.{MergeKey}
use Rattle.report.specs.Merging.{AreApart}
use Rattle.mergecap.specs.declared.stored.Stored.{Stored}
use Rattle.mergecap.specs.MergedCapture.{IsShort, Timed, merge_keys}
use Rattle.mergecap.specs.Packets.{timed, all_timed}
use Rattle.capture_tests.specs.Ready.{AreReady}

pub none_ready : AreReady []
none_ready = record {
  differ = λ i j d below inside. absurd (omega (arith, inside));
  counted = All-nil (λ (s : Stored). s.n ≤ 0);
  times = All-nil (λ (s : Stored). pos 0 ≤ℤ s.value);
  short = All-nil IsShort;
}

abbrev Apart : MergeKey → MergeKey → Type 0
Apart a b = a.place ≡ b.place → a.n ≡ b.n → ⊥

key_low : (kept : List Stored) (k : ℕ) (d : MergeKey) → All (λ (s : Stored). s.n ≤ length kept) kept → (s : Stored) → k < length (merge_keys (all_timed kept)) → (get_or (merge_keys (all_timed kept)) k d).n ≤ length kept
key_low kept k d counted s inside =
    let keys : length (merge_keys (all_timed kept)) ≡ length (all_timed kept) = length-map (all_timed kept) (λ (t : Timed). t.key) in
    let long : length (all_timed kept) ≡ length kept = length-map kept timed in
    let among : k < length (all_timed kept) = omega (arith, inside, keys) in
    let within : k < length kept = omega (arith, among, long) in
    let at : get_or (merge_keys (all_timed kept)) k d ≡ (get_or (all_timed kept) k (timed s)).key = get_or-map (λ (t : Timed). t.key) (all_timed kept) k (timed s) d among in
    let there : get_or (all_timed kept) k (timed s) ≡ timed (get_or kept k s) = get_or-map timed kept k s (timed s) within in
    subst (λ (n : ℕ). n ≤ length kept) (sym (ap (λ (key : MergeKey). key.n) at ∙ ap (λ (t : Timed). t.key.n) there)) (counted k s within)

pub one_more : (kept : List Stored) (s : Stored) → AreReady kept → s.n ≡ length kept + 1 → pos 0 ≤ℤ s.value → length s.packet.bytes.items ≤ 262144 → AreReady (kept ++ s ∷ [])
one_more kept s ready number time few =
    let grown : length (kept ++ s ∷ []) ≡ length kept + 1 = length_push kept s in
    let seen : all_timed (kept ++ s ∷ []) ≡ all_timed kept ++ timed s ∷ [] = map_push timed kept s in
    let keys : merge_keys (all_timed (kept ++ s ∷ [])) ≡ merge_keys (all_timed kept) ++ (timed s).key ∷ [] = ap merge_keys seen ∙ map_push (λ (t : Timed). t.key) (all_timed kept) (timed s) in
    record {
      differ = subst AreApart (sym keys) (all_pairs_push Apart (merge_keys (all_timed kept)) (timed s).key ready.differ (λ k d inside place same. absurd (omega (arith, key_low kept k d ready.counted s inside, same, number))));
      counted = subst (λ (n : ℕ). All (λ (t : Stored). t.n ≤ n) (kept ++ s ∷ [])) (sym grown)
          (All-push (λ (t : Stored). t.n ≤ length kept + 1) kept s (All-weaker (λ (t : Stored). t.n ≤ length kept) (λ (t : Stored). t.n ≤ length kept + 1) (λ t low. omega (arith, low)) kept ready.counted) (omega (arith, number)));
      times = All-push (λ (t : Stored). pos 0 ≤ℤ t.value) kept s ready.times time;
      short = subst (All IsShort) (sym seen) (All-push IsShort (all_timed kept) (timed s) ready.short few);
    }
