-- The packets under each label that have no event, by what is held and by the traces.
use Rattle.std.proofs.Common.{◌≡◌, ℕ, suc, List, [], ◌∷◌, length, map, slice_get, Some, refl, sym, ◌∙◌, ap, arith}
use Rattle.std.proofs.lemmas.List.{length-map}
use Rattle.captures.specs.Capture.{Dropped, Passed}
use Rattle.captures.proofs.Standing.{stands_dropped, stands_passed}
use Rattle.decl.specs.Declaration.{Declaration}
use Rattle.traces.specs.declared.accepted.Accepted.{Accepted}
use Rattle.traces.specs.declared.accepted.Stream.{Stream}
use Rattle.traces.specs.declared.accepted.Stream.TheVariants as streams
use Rattle.traces.specs.Traces.{Trace, Captured, Logged, Traces, Missed, missed_of, bytes_accepted}
use Rattle.traces.specs.Held.{missed_by, missed_in}
use Rattle.replies.specs.Reply.{State}
use Rattle.session.specs.Stands.{Held, Under, StandsFor, IsStreamOf, under_of}

-- under one label
both : (p q : Passed) (d e : Dropped) → p ≡ q → d ≡ e → ◌≡◌ {A = Missed} (record { passed = p; dropped = d }) (record { passed = q; dropped = e })
both p q d e passed dropped = cc

stream_missed : (stream : Stream) (trace : Trace) → IsStreamOf stream trace → missed_by stream ≡ missed_of trace
stream_missed streams.Log (Captured bytes capture) is = absurd is
stream_missed streams.Log (Logged rows size) is = refl
stream_missed (streams.Capture tail) (Captured bytes capture) is = both _ _ _ _ (stands_passed tail bytes capture is) (stands_dropped tail bytes capture is)
stream_missed (streams.Capture tail) (Logged rows size) is = absurd is

joined : {A : Type 0} (x y : A) (xs ys : List A) → x ≡ y → xs ≡ ys → x ∷ xs ≡ y ∷ ys
joined x y xs ys first more = cc

-- under each of as many
each_missed : (accepted : List Accepted) (traces : Traces) → length accepted ≡ length traces →
    ((k : ℕ) (u : Under) (trace : Trace) → slice_get (map under_of accepted) k ≡ Some u → slice_get traces k ≡ Some trace → IsStreamOf u.stream trace) → missed_in accepted ≡ map missed_of traces
each_missed [] [] same each = refl
each_missed [] (t ∷ traces) same each = absurd (omega (arith, same))
each_missed (a ∷ accepted) [] same each = absurd (omega (arith, same))
each_missed (a ∷ accepted) (t ∷ traces) same each =
    let fewer : length accepted ≡ length traces = omega (arith, same) in
    joined (missed_by a.stream) (missed_of t) (missed_in accepted) (map missed_of traces) (stream_missed a.stream t (each 0 (under_of a) t refl refl))
    (each_missed accepted traces fewer (λ k u trace at_u at_t. each (suc k) u trace at_u at_t))

pub missed_same : (held : Held) (accepted : List Accepted) (x : Declaration) (s : State) → held.under ≡ map under_of accepted → StandsFor held x s → missed_in accepted ≡ map missed_of s.traces
missed_same held accepted x s is stands =
    let size = λ (u : Under). u.size in
    let same : length accepted ≡ length s.traces =
    sym (length-map accepted under_of) ∙ ap (λ (us : List Under). length us) (sym is) ∙ sym (length-map held.under size) ∙ ap (λ (ns : List ℕ). length ns) stands.sizes ∙ length-map s.traces bytes_accepted in
    each_missed accepted s.traces same (λ k u trace at_u at_t. stands.streams k u trace (ap (λ (us : List Under). slice_get us k) is ∙ at_u) at_t)
