-- The events under each label.
use Rattle.std.proofs.Common.{◌≡◌, ℕ, zero, suc, List, [], ◌∷◌, length, map, replicate, slice_get, slice_set, Some, refl, ◌∙◌, ap, subst}
use Rattle.captures.specs.Capture.{Reads, nothing}
use Rattle.decl.specs.declared.items.Label.{Label}
use Rattle.decl.specs.declared.items.TraceKind.{TraceKind}
use Rattle.decl.specs.declared.items.TraceKind.TheVariants.{Capture, Log}
use Rattle.decl.specs.Declaration.{Declaration}
use Rattle.traces.specs.Seen.{Seen}
use Rattle.traces.specs.Traces.{Trace, Traces, seen_of, seen_under, nothing_for, IsOfKind}
use Rattle.replies.proofs.Elements.{some_same}

pub seen_at : (d : Declaration) (labels : List Label) (traces : Traces) (k : ℕ) (label : Label) (trace : Trace) → slice_get labels k ≡ Some label → slice_get traces k ≡ Some trace →
    slice_get (seen_under d labels traces) k ≡ Some (seen_of d label trace)
seen_at d [] traces k label trace at at' = absurd cc
seen_at d (l ∷ labels) [] k label trace at at' = absurd cc
seen_at d (l ∷ labels) (t ∷ traces) zero label trace at at' =
    ap (λ (x : Label). Some (seen_of d x t)) (some_same l label at) ∙ ap (λ (x : Trace). Some (seen_of d label x)) (some_same t trace at')
seen_at d (l ∷ labels) (t ∷ traces) (suc k) label trace at at' = seen_at d labels traces k label trace at at'

pub seen_set : (d : Declaration) (labels : List Label) (traces : Traces) (k : ℕ) (label : Label) (new : Trace) → slice_get labels k ≡ Some label →
    seen_under d labels (slice_set traces k new) ≡ slice_set (seen_under d labels traces) k (seen_of d label new)
seen_set d [] traces k label new at = absurd cc
seen_set d (l ∷ labels) [] k label new at = refl
seen_set d (l ∷ labels) (t ∷ traces) zero label new at = ap (λ (x : Label). seen_of d x new ∷ seen_under d labels traces) (some_same l label at)
seen_set d (l ∷ labels) (t ∷ traces) (suc k) label new at = ap (λ (more : List (List Seen)). seen_of d l t ∷ more) (seen_set d labels traces k label new at)

-- ---- nothing was added
no_events : (d : Declaration) (label : Label) (kind : TraceKind) → seen_of d label (nothing_for kind) ≡ []
no_events d label Capture = refl
no_events d label Log = refl

pub events_start : (d : Declaration) (labels : List Label) → seen_under d labels (map (λ (l : Label). nothing_for l.kind) labels) ≡ replicate (length labels) []
events_start d [] = refl
events_start d (label ∷ labels) = rw (no_events d label label.kind, events_start d labels) refl

-- by what is true of a capture of which nothing came yet
module _ (nothing_reads : Reads [] nothing) where
  of_kind : (kind : TraceKind) → IsOfKind kind (nothing_for kind)
  of_kind Capture = nothing_reads
  of_kind Log = tt

  pub kinds_start : (labels : List Label) (k : ℕ) (label : Label) (trace : Trace) → slice_get labels k ≡ Some label → slice_get (map (λ (l : Label). nothing_for l.kind) labels) k ≡ Some trace →
      IsOfKind label.kind trace
  kinds_start [] k label trace at at' = absurd cc
  kinds_start (l ∷ labels) zero label trace at at' =
      subst (λ (t : Trace). IsOfKind label.kind t) (some_same (nothing_for l.kind) trace at')
      (subst (λ (x : Label). IsOfKind x.kind (nothing_for l.kind)) (some_same l label at) (of_kind l.kind))
  kinds_start (l ∷ labels) (suc k) label trace at at' = kinds_start labels k label trace at at'
