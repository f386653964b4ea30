-- A follow joins two chains.
use Rattle.std.proofs.Common.{◌≡◌, ◌≢◌, ◌⊎◌, ◌<◌, ℕ, List, [], ◌∷◌, ◌++◌, length, get_or, cond, nat_eq, Option, Some, None, refl, sym, ◌∙◌, ap, subst, arith, inl, inr}
use Rattle.std.specs.Prelude.{Contains, slice_set, ◌↔◌}
use Rattle.std.proofs.lemmas.Bool.{cases_lt, cases_eq}
use Rattle.std.proofs.lemmas.List.{get_or_default}
use Rattle.std.proofs.Math.ListN.{length-set}
use Rattle.problem_model.specs.declared.items.Follow.{Follow}
use Rattle.problem_model.specs.Problem.{ProblemLists, IsWellFormed, IsChained}
use Rattle.problem_model.specs.Bounds.{LinesLead}
use Rattle.problem_model.specs.ChainNumbers.{AreChainNumbers, with_follow, IsFrom, JoinsChains}
use Rattle.problem_model.specs.ShortList.{follow_to}
use Rattle.problem_model.proofs.Following.{chained_by, by_last, ends_rise, line_to}
use Rattle.problem_model.proofs.NearestFollows.{rises_after}
use Rattle.problem_model.proofs.Numbered.{numbers_joined}
use Rattle.problem.specs.declared.chains.Link.{Link}
use Rattle.problem.specs.Growing.{IsNewFollow}
use Rattle.problem.specs.Inside.{AreLinks, AreChainCounts, AreMerged, IsNextClock, LeadInOrder, link_at, follow_of_earlier, merged}
use Rattle.problem.proofs.OneLink.{nothing, test_true, test_false, told_after, told_before, by_write, written_here, written_else}
use Rattle.problem.proofs.Counted.{counted_written, counted_merged, count_merged, number_merged, kept_merged, renumber_number}
use Rattle.problem.proofs.Linked.{found_end, none_end, one_end, more_here, more_else}

some_same : {X : Type 0} (a b : X) → Some a ≡ Some b → a ≡ b
some_same a b e = cc

none_or_some : (o : Option Follow) (f : Follow) → o ≡ None → o ≡ Some f → ⊥
none_or_some o f none some = cc

-- ---- the number of either chain in the place of the other: the same clocks have one number
abbrev instead : ℕ → ℕ → ℕ → ℕ
instead a b n = cond (nat_eq n a) b n

one_of_either : (a b m n : ℕ) → instead a b m ≡ instead a b n → instead b a m ≡ instead b a n
one_of_either a b m n same = grind (arith, same)

module _ (p : ProblemLists) (ls : List Link) (formed : IsWellFormed p) (links : AreLinks p ls) where
  chained : IsChained p
  chained = chained_by p formed

  from_lines : (a b : ℕ) (lines : List Follow) → LinesLead p a lines b → IsFrom p a b
  from_lines a b [] leads = inl leads
  from_lines a b (f ∷ lines) leads = inr (f, lines, leads)

  not_below : (a b : ℕ) → b < a → IsFrom p a b → ⊥
  not_below a b below (inl is) = omega (arith, below, is)
  not_below a b below (inr after) = let rise = rises_after p chained a b after in omega (arith, below, rise)

  -- ---- follows lead over the clocks of a number in their order
  after_is : (k : ℕ) (f : Follow) → Contains p.follows f → f.earlier ≡ k → (link_at ls k).after ≡ Some f
  after_is k f at is = links.afters k ∙ one_end (λ g. g.earlier) p.follows f k formed.earliers_differ at is

  before_is : (k : ℕ) (f : Follow) → Contains p.follows f → f.later ≡ k → (link_at ls k).before ≡ Some f
  before_is k f at is = links.befores k ∙ line_to p chained f k at is

  next_by : (f : Follow) (k l : ℕ) → Contains p.follows f → f.earlier ≡ k → f.later ≡ l → IsNextClock ls k l
  next_by f k l at from to =
      let ends = ends_rise p chained [] tt f at in
      let rise = ends.0 in
      let within = ends.1 in
      let count = links.each in
      let behind : k < l = omega (arith, rise, from, to) in
      let inside : l < length p.clocks = omega (arith, within, to) in
      record {
        behind = behind;
        inside = omega (arith, inside, count);
        one_number = sym ((links.numbers k l behind inside).1 (f, [], (at, from, to)));
        nearest = λ m above below same.
            let after = (links.numbers k m above (omega (arith, below, inside))).0 (sym same) in
            let one : after.0 ≡ f = some_same after.0 f (sym (after_is k after.0 after.2.0 after.2.1) ∙ after_is k f at from) in
            let rest = subst (λ (g : Follow). LinesLead p g.later after.1 m) one after.2.2 in
            not_below f.later m (omega (arith, below, to)) (from_lines f.later m after.1 rest);
      }

  pub in_order : LeadInOrder ls
  in_order = record {
    onward = λ k f is. let found = found_end (λ g. g.earlier) p.follows k f (sym (links.afters k) ∙ is) in next_by f k f.later found.0 found.1 refl;
    back = λ k f is. let found = found_end (λ g. g.later) p.follows k f (sym (links.befores k) ∙ is) in next_by f f.earlier k found.0 refl found.1;
    last = λ k l none below inside same.
        let count = links.each in
        let after = (links.numbers k l below (omega (arith, inside, count))).0 (sym same) in
        none_or_some (link_at ls k).after after.0 none (after_is k after.0 after.2.0 after.2.1);
    first = λ k l none below inside same.
        let count = links.each in
        let last = by_last p k l ((links.numbers k l below (omega (arith, inside, count))).0 same) in
        none_or_some (link_at ls l).before last.0 none (before_is l last.0 last.1.0 last.1.1);
  }

  -- ---- a new follow
  module _ (f : Follow) (new : IsNewFollow p f) where
    pub inside_later : f.later < length ls
    inside_later = let count = links.each in let within = new.leads.1 in omega (arith, count, within)

    pub inside_earlier : f.earlier < length ls
    inside_earlier = let rise = new.leads.0 in let within = inside_later in omega (arith, rise, within)

    pub ends_earlier : (link_at ls f.earlier).after ≡ None
    ends_earlier = links.afters f.earlier ∙ none_end (λ g. g.earlier) p.follows f.earlier new.earlier_new

    pub begins_later : (link_at ls f.later).before ≡ None
    begins_later = links.befores f.later ∙ none_end (λ g. g.later) p.follows f.later new.later_new

    pub numbers_apart : (link_at ls f.earlier).number ≢ (link_at ls f.later).number
    numbers_apart same = in_order.last f.earlier f.later ends_earlier new.leads.0 inside_later (sym same)

    abbrev earlier_number : ℕ
    earlier_number = (link_at ls f.earlier).number

    abbrev later_number : ℕ
    later_number = (link_at ls f.later).number

    -- the clocks from the later one on are those of its number
    abbrev TakenAt : ℕ → Type 0
    TakenAt k = (IsFrom p f.later k × (instead later_number earlier_number (link_at ls k).number ≡ earlier_number))
        ⊎ ((IsFrom p f.later k → ⊥) × (instead later_number earlier_number (link_at ls k).number ≡ (link_at ls k).number))

    on : (k : ℕ) → IsFrom p f.later k → (link_at ls k).number ≡ later_number → TakenAt k
    on k from is = inl (from, rw (test_true (link_at ls k).number later_number is) refl)

    off : (k : ℕ) → (IsFrom p f.later k → ⊥) → ((link_at ls k).number ≡ later_number → ⊥) → TakenAt k
    off k apart differ = inr (apart, rw (test_false (link_at ls k).number later_number differ) refl)

    other_chain : (k : ℕ) → f.later < k → k < length p.clocks → ((link_at ls k).number ≡ later_number → ⊥) → IsFrom p f.later k → ⊥
    other_chain k above inside differ (inl is) = omega (arith, above, is)
    other_chain k above inside differ (inr after) = differ (sym ((links.numbers f.later k above inside).1 after))

    taken : JoinsChains p f (λ k. (link_at ls k).number) (λ k. instead later_number earlier_number (link_at ls k).number)
    taken k inside = elim (cases_lt k f.later) [
      | inl below ↦ off k (not_below f.later k below) (in_order.first k f.later begins_later below inside_later)
      | inr from ↦ elim (cases_eq f.later k) [
        | inl is ↦ on k (inl is) (ap (λ (j : ℕ). (link_at ls j).number) (sym is))
        | inr differ ↦
            let above : f.later < k = omega (arith, from, differ) in
            elim (cases_eq (link_at ls k).number later_number) [
              | inl same ↦ on k (inr ((links.numbers f.later k above inside).0 (sym same))) same
              | inr other ↦ off k (other_chain k above inside other) other
            ]
      ]
    ]

    numbers_taken : AreChainNumbers (with_follow p f) (λ k. instead later_number earlier_number (link_at ls k).number)
    numbers_taken = numbers_joined p chained f new.leads new.earlier_new new.later_new (λ k. (link_at ls k).number) (λ k. instead later_number earlier_number (link_at ls k).number) links.numbers taken

    place_of : (k : ℕ) → k < length ls → (link_at ls k).number < length ls
    place_of k inside = links.counted.places k inside

    inside_clocks : (k : ℕ) → k < length p.clocks → k < length ls
    inside_clocks k inside = let count = links.each in omega (arith, count, inside)

    -- the links of both chains under one number, whichever it is
    pub record IsOneChain (ms : List Link) : Type 0 where
      pub count : length ms ≡ length ls
      pub befores : (k : ℕ) → (link_at ms k).before ≡ (link_at ls k).before
      pub afters : (k : ℕ) → (link_at ms k).after ≡ (link_at ls k).after
      pub numbers : AreChainNumbers (with_follow p f) (λ k. (link_at ms k).number)
      pub counted : AreChainCounts ms

    by_numbers : (a b : ℕ) → a ≢ b → b < length ls
        → ((m n : ℕ) → (instead a b m ≡ instead a b n) ↔ (instead later_number earlier_number m ≡ instead later_number earlier_number n)) → IsOneChain (merged ls a b)
    by_numbers a b differ place same = record {
      count = count_merged ls a b differ place;
      befores = kept_merged ls a b differ place (λ l. l.before) (λ l n. refl) (λ l n. refl);
      afters = kept_merged ls a b differ place (λ l. l.after) (λ l n. refl) (λ l n. refl);
      numbers = λ c d below inside.
          let first = number_of c (inside_clocks c (omega (arith, below, inside))) in
          let second = number_of d (inside_clocks d inside) in
          let here = numbers_taken c d below inside in
          let both = same (link_at ls c).number (link_at ls d).number in
          ((λ one. here.0 (both.0 (sym first ∙ one ∙ second))), (λ after. first ∙ both.1 (here.1 after) ∙ sym second));
      counted = counted_merged ls a b differ place links.counted;
    }
      where
        number_of : (k : ℕ) → k < length ls → (link_at (merged ls a b) k).number ≡ instead a b (link_at ls k).number
        number_of k inside = number_merged ls a b differ place k inside ∙ renumber_number a b (link_at ls k)

    pub one_chain : (ms : List Link) → AreMerged ls ms earlier_number later_number → IsOneChain ms
    one_chain ms (inl is) = subst IsOneChain (sym is.1) (by_numbers earlier_number later_number numbers_apart (place_of f.later inside_later)
        (λ m n. (one_of_either earlier_number later_number m n, one_of_either later_number earlier_number m n)))
    one_chain ms (inr is) = subst IsOneChain (sym is.1) (by_numbers later_number earlier_number (λ same. numbers_apart (sym same)) (place_of f.earlier inside_earlier)
        (λ m n. ((λ e. e), (λ e. e))))

    -- ---- both ends are told of the follow
    module _ (ms : List Link) (one : IsOneChain ms) where
      earlier_in : f.earlier < length ms
      earlier_in = let count = one.count in let inside = inside_earlier in omega (arith, count, inside)

      abbrev first : Link
      first = record (link_at ms f.earlier) { after = Some f }

      abbrev half_told : List Link
      half_told = told_after ms f.earlier f

      abbrev second : Link
      second = record (link_at half_told f.later) { before = Some f }

      abbrev both_told : List Link
      both_told = told_before half_told f.later f

      later_in : f.later < length half_told
      later_in = let count = one.count in let inside = inside_later in let same = length-set ms f.earlier first in omega (arith, count, inside, same)

      still : {A : Type 0} (part : Link → A) → ((l : Link) (o : Option Follow) → part (record l { after = o }) ≡ part l) → ((l : Link) (o : Option Follow) → part (record l { before = o }) ≡ part l)
          → (k : ℕ) → part (link_at both_told k) ≡ part (link_at ms k)
      still part after before k =
          by_write half_told f.later later_in part second k (before (link_at half_told f.later) (Some f))
          ∙ by_write ms f.earlier earlier_in part first k (after (link_at ms f.earlier) (Some f))

      number_still : (k : ℕ) → (link_at both_told k).number ≡ (link_at ms k).number
      number_still = still (λ l. l.number) (λ l o. refl) (λ l o. refl)

      befores_joined : (k : ℕ) → (link_at both_told k).before ≡ follow_to (p.follows ++ f ∷ []) k
      befores_joined k = elim (cases_eq k f.later) [
        | inl is ↦
            ap (λ (j : ℕ). (link_at both_told j).before) is
            ∙ written_here half_told f.later later_in (λ l. l.before) second
            ∙ sym (more_here (λ g. g.later) p.follows f k new.later_new is)
        | inr differ ↦
            written_else half_told f.later later_in (λ l. l.before) second k differ
            ∙ by_write ms f.earlier earlier_in (λ l. l.before) first k refl
            ∙ one.befores k ∙ links.befores k ∙ sym (more_else (λ g. g.later) p.follows f k differ)
      ]

      afters_joined : (k : ℕ) → (link_at both_told k).after ≡ follow_of_earlier (p.follows ++ f ∷ []) k
      afters_joined k =
          by_write half_told f.later later_in (λ l. l.after) second k refl ∙ elim (cases_eq k f.earlier) [
            | inl is ↦
                ap (λ (j : ℕ). (link_at half_told j).after) is
                ∙ written_here ms f.earlier earlier_in (λ l. l.after) first
                ∙ sym (more_here (λ g. g.earlier) p.follows f k new.earlier_new is)
            | inr differ ↦
                written_else ms f.earlier earlier_in (λ l. l.after) first k differ
                ∙ one.afters k ∙ links.afters k ∙ sym (more_else (λ g. g.earlier) p.follows f k differ)
          ]

      links_joined : AreLinks (with_follow p f) both_told
      links_joined = record {
        each = length-set half_told f.later second
            ∙ length-set ms f.earlier first ∙ one.count ∙ links.each;
        befores = befores_joined;
        afters = afters_joined;
        numbers = λ c d below inside.
            let here = one.numbers c d below inside in
            ((λ same. here.0 (sym (number_still c) ∙ same ∙ number_still d)), (λ after. number_still c ∙ here.1 after ∙ sym (number_still d)));
        counted = counted_written half_told f.later second later_in refl refl
            (counted_written ms f.earlier first earlier_in refl refl one.counted);
      }

      pub links_read : (d e : Link) → AreLinks (with_follow p f)
          (slice_set (slice_set ms f.earlier (record (get_or ms f.earlier d) { after = Some f })) f.later
          (record (get_or (slice_set ms f.earlier (record (get_or ms f.earlier d) { after = Some f })) f.later e) { before = Some f }))
      links_read d e =
          let one : get_or ms f.earlier d ≡ link_at ms f.earlier = get_or_default ms f.earlier d nothing earlier_in in
          let two : get_or (told_after ms f.earlier f) f.later e ≡ link_at (told_after ms f.earlier f) f.later = get_or_default (told_after ms f.earlier f) f.later e nothing later_in in
          subst (λ (l : Link). AreLinks (with_follow p f) (slice_set (slice_set ms f.earlier (record l { after = Some f })) f.later (record (get_or (slice_set ms f.earlier (record l { after = Some f })) f.later e) { before = Some f }))) (sym one)
          (subst (λ (l : Link). AreLinks (with_follow p f) (slice_set (told_after ms f.earlier f) f.later (record l { before = Some f }))) (sym two) links_joined)
