-- Where all lines of a script are added and their packets have no merge, the script has none.
use Rattle.std.proofs.Common.{◌≡◌, ◌∙◌, ℕ, List, ap, sym, subst, Result, Ok, Err, IfErr}
use Rattle.decl.specs.Declaration.{Declaration}
use Rattle.mergecap.specs.MergedCapture.{Timed}
use Rattle.traces.specs.Seen.{Seen}
use Rattle.traces.specs.Traces.{seen_by}
use Rattle.session.specs.Stands.{Held, seen_held}
use Rattle.session.specs.Script.{Devices, OfScript}
use Rattle.session.proofs.Places.{of_script}
use Rattle.merge_script.specs.declared.unmerged.Unmerged.{Unmerged}
use Rattle.merge_script.specs.declared.unmerged.Unmerged.TheVariants as ends
use Rattle.merge_script.specs.Gathered.{AddsScript}
use Rattle.merge_script.specs.Turns.{GathersAll}
use Rattle.merge_script.specs.Merged.{LacksMerge, MergesNot, OfAllAdded}

module _ (d : Declaration) (old new : Devices) (h : Held) (kept : List Timed) (all : GathersAll d old new h kept) where
  -- what is so of the packets that are held is so of all that were added
  of_all : (Says : List (List Seen) → List Timed → Type 0) → Says (seen_held h.under) kept → OfScript old.input.left (OfAllAdded d old new Says)
  of_all Says says =
      let s = all.are.state in
      let same : seen_held h.under ≡ seen_by d s.traces = all.are.stands.events ∙ ap (λ (x : Declaration). seen_by x s.traces) all.declared in
      of_script old.input.left (AddsScript d old new s) (OfAllAdded d old new Says)
      (λ script adds. record { state = s; adds = adds; all = kept; are = all.are.all; says = subst (λ (seen : List (List Seen)). Says seen kept) same says }) all.adds

  -- by the declaration that the script began with
  lacks_here : (why : Unmerged) → LacksMerge h.declaration (seen_held h.under) kept why → LacksMerge d (seen_held h.under) kept why
  lacks_here why lacks = subst (λ (x : Declaration). LacksMerge x (seen_held h.under) kept why) all.declared lacks

  lacks_all : (why : Unmerged) → LacksMerge d (seen_held h.under) kept why → MergesNot d old new why
  lacks_all (ends.Refused said) lacks = absurd lacks
  lacks_all ends.Size lacks = absurd lacks
  lacks_all ends.Inconsistent lacks = of_all (λ seen ts. LacksMerge d seen ts ends.Inconsistent) lacks
  lacks_all ends.Links lacks = of_all (λ seen ts. LacksMerge d seen ts ends.Links) lacks
  lacks_all ends.Range lacks = of_all (λ seen ts. LacksMerge d seen ts ends.Range) lacks
  lacks_all ends.ReadFault lacks = absurd lacks
  lacks_all ends.Limit lacks = absurd lacks
  lacks_all ends.Memory lacks = tt

  pub merges_not : {A : Type 0} (r : Result A Unmerged) → IfErr r (LacksMerge h.declaration (seen_held h.under) kept) → IfErr r (MergesNot d old new)
  merges_not (Ok a) lacks = tt
  merges_not (Err why) lacks = lacks_all why (lacks_here why lacks)
