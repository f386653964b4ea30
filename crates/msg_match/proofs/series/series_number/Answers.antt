use Rattle.std.proofs.Common.{◌≡◌, ◌++◌, ◌∷◌, [], List, ℕ, slice_get, Some, ap, ◌∙◌}
use Rattle.traces.specs.Seen.{EventKey, key_of}
use Rattle.msg_match.proofs.Stops.{last_number, with_known}
use Rattle.msg_match.proofs.series.series_number.Goals as goal

pub returns-in-Some-clause-series : goal.returns-in-Some-clause-series
returns-in-Some-clause-series c = with_known c.args.series.now c.in-Some.place (key_of c.args.key) c.in-Some.ensures.some

pub returns-in_ok-push-in-None-clause-number : goal.returns-in_ok-push-in-None-clause-number
returns-in_ok-push-in-None-clause-number c =
    let ks = c.args.series.now in
    let key = key_of c.args.key in
    ap (λ (l : List EventKey). slice_get l c.len-place.result) c.in_ok-push-in-None.ensures.ok ∙ ap (λ (n : ℕ). slice_get (ks ++ key ∷ []) n) c.len-place.ensures ∙ last_number ks key
