-- The lines of what a roster holds.
use Rattle.std.proofs.Common.{◌≡◌, ℕ, List, [], ◌∷◌, map, slice_get, Option, Some, codes, sym, ◌∙◌, ap}
use Rattle.std.specs.Prelude.{option_and_then}
use Rattle.std.proofs.lemmas.Option.{same_Some}
use Rattle.atto.specs.Decimal.{decimal_of}
use Rattle.line_format.specs.Words.{line_of}
use Rattle.problem_model.specs.declared.items.Clock.{Clock}
use Rattle.problem_model.specs.declared.items.StampBounds.{StampBounds}
use Rattle.problem_model.specs.ProblemText.{bound_words, clock_name, most_word}
use Rattle.problem.proofs.ListedNodes.{map_at}
use Rattle.problem.proofs.Naming.{name_found, clock_name_is}
use Rattle.decl.specs.declared.items.Label.{Label}
use Rattle.decl.specs.Declaration.{link_bounds, own_bounds}
use Rattle.traces.specs.Messages.{bounds_of}
use Rattle.traces.specs.Traces.{clock_by, clock_of, host_of, name_of}
use Rattle.roster.specs.declared.came.Came.{Came}
use Rattle.roster.specs.Roster.{RosterLists, id_of, event_at, IsRoster, listed}
use Rattle.problem_text.specs.RosterText.{came_line, couple_line}
use Rattle.problem_text.proofs.Ids.{event_is}

-- the name that is listed for an event
listed_name : (r : RosterLists) (v : ℕ) (e : Came) (name : List ℕ) → slice_get r.came v ≡ Some e → slice_get (listed r).event_names v ≡ Some name → name ≡ name_of r.declaration (id_of e)
listed_name r v e name at named = same_Some name (name_of r.declaration (id_of e)) (sym named ∙ map_at (λ (x : Came). name_of r.declaration (id_of x)) r.came v e at)

module _ (r : RosterLists) (is : IsRoster r) where
  came_is : (v : ℕ) (e : Came) → slice_get r.came v ≡ Some e → event_at r.came v ≡ e
  came_is = event_is r is

  pub came_text : (v : ℕ) (e : Came) (l : Label) (name clock : List ℕ) (bounds : Option StampBounds) → slice_get r.came v ≡ Some e → slice_get r.declaration.labels e.label ≡ Some l → bounds ≡ own_bounds r.declaration l → slice_get (listed r).event_names v ≡ Some name → slice_get (listed r).clock_names l.clock ≡ Some clock →
      line_of (codes "event" ∷ name ∷ clock ∷ decimal_of e.stamp ∷ bound_words bounds) ≡ came_line r v
  came_text v e l name clock bounds at own given named on =
      let d = r.declaration in
      let clocks = d.clocks in
      let its_clock : clock ≡ clock_name clocks l.clock = name_found (map (λ (c : Clock). c.name) clocks) l.clock clock on ∙ clock_name_is clocks l.clock in
      let place : l.clock ≡ clock_of d (id_of e) = ap clock_by (sym own) in
      let its_bounds : bounds ≡ bounds_of d (id_of e) = given ∙ ap (option_and_then (own_bounds d)) (sym own) in
      ap (λ (n : List ℕ). line_of (codes "event" ∷ n ∷ clock ∷ decimal_of e.stamp ∷ bound_words bounds)) (listed_name r v e name at named)
      ∙ ap (λ (n : List ℕ). line_of (codes "event" ∷ name_of d (id_of e) ∷ n ∷ decimal_of e.stamp ∷ bound_words bounds)) (its_clock ∙ ap (clock_name clocks) place)
      ∙ ap (λ (b : Option StampBounds). line_of (codes "event" ∷ name_of d (id_of e) ∷ clock_name clocks (clock_of d (id_of e)) ∷ decimal_of e.stamp ∷ bound_words b)) its_bounds
      ∙ ap (λ (x : Came). line_of (codes "event" ∷ name_of d (id_of x) ∷ clock_name clocks (clock_of d (id_of x)) ∷ decimal_of x.stamp ∷ bound_words (bounds_of d (id_of x)))) (sym (came_is v e at))

  pub couple_text : (v w : ℕ) (e f : Came) (send receive : List ℕ) (bounds : ℕ × Option ℕ) → slice_get r.came v ≡ Some e → slice_get r.came w ≡ Some f → slice_get (listed r).event_names v ≡ Some send → slice_get (listed r).event_names w ≡ Some receive →
      bounds ≡ link_bounds r.declaration (host_of r.declaration (id_of e)) (host_of r.declaration (id_of f)) →
      line_of (codes "message" ∷ send ∷ receive ∷ decimal_of bounds.0 ∷ most_word bounds.1 ∷ []) ≡ couple_line r.declaration (id_of (event_at r.came v)) (id_of (event_at r.came w))
  couple_text v w e f send receive bounds at at' named named' is_bounds =
      let d = r.declaration in
      ap (λ (b : ℕ × Option ℕ). line_of (codes "message" ∷ send ∷ receive ∷ decimal_of b.0 ∷ most_word b.1 ∷ [])) is_bounds
      ∙ ap (λ (n : List ℕ). let b = link_bounds d (host_of d (id_of e)) (host_of d (id_of f)) in line_of (codes "message" ∷ n ∷ receive ∷ decimal_of b.0 ∷ most_word b.1 ∷ [])) (listed_name r v e send at named)
      ∙ ap (λ (n : List ℕ). let b = link_bounds d (host_of d (id_of e)) (host_of d (id_of f)) in line_of (codes "message" ∷ name_of d (id_of e) ∷ n ∷ decimal_of b.0 ∷ most_word b.1 ∷ [])) (listed_name r w f receive at' named')
      ∙ ap (λ (x : Came). couple_line d (id_of x) (id_of f)) (sym (came_is v e at))
      ∙ ap (λ (x : Came). couple_line d (id_of (event_at r.came v)) (id_of x)) (sym (came_is w f at'))
