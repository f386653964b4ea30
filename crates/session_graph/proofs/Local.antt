-- Groups while events come: events of one group stay in one, and a group that has none of those that came was one before.
use Rattle.std.proofs.Common.{◌≡◌, ◌&&◌, ◌⊎◌, ℕ, List, [], ◌∷◌, ◌++◌, Bool, cond, Option, Some, None, inl, inr, refl, sym, ap, ◌∙◌, subst}
use Rattle.std.specs.Prelude.{ℤ, Contains}
use Rattle.std.proofs.lemmas.Option.{none-some, same_Some}
use Rattle.traces.specs.Beginnings.{beginning}
use Rattle.traces.specs.Seen.{EventKey, MessageKey, SeenMoment, is_same_message}
use Rattle.traces.specs.Windows.{group_key, is_same_window, time_in, time_with, times_of}
use Rattle.traces.proofs.Beginnings.{once_one, still_one}
use Rattle.traces.proofs.Members.{giver}
use Rattle.msg_match.proofs.GroupedEnds.{alike_key, made_key, own_time, times_moved}

-- a moment of this window
abbrev at : ℕ → ℤ → SeenMoment
at window time = record { time = time; window = window }

abbrev timed_key : MessageKey → ℕ → ℤ → EventKey
timed_key message window time = made_key message (Some (at window time))

-- the times of the keys alike are those of each of them
same_window : (w : ℕ) (t u : ℤ) (o : Option SeenMoment) → is_same_window (Some (at w t)) o ≡ is_same_window (Some (at w u)) o
same_window w t u None = refl
same_window w t u (Some m) = refl

same_with : (message : MessageKey) (w : ℕ) (t u : ℤ) (k : EventKey) → time_with (timed_key message w t) k ≡ time_with (timed_key message w u) k
same_with message w t u k = ap (λ (b : Bool). cond (is_same_message message k.message && b) (time_in k) []) (same_window w t u k.moment)

same_times : (message : MessageKey) (w : ℕ) (t u : ℤ) (keys : List EventKey) → times_of keys (timed_key message w t) ≡ times_of keys (timed_key message w u)
same_times message w t u [] = refl
same_times message w t u (k ∷ keys) =
    ap (λ (l : List ℤ). l ++ times_of keys (timed_key message w t)) (same_with message w t u k) ∙ ap (λ (l : List ℤ). time_with (timed_key message w u) k ++ l) (same_times message w t u keys)

module _ (ks js : List EventKey) (grown : (k : EventKey) → Contains ks k → Contains js k) where
  module _ (message : MessageKey) (w : ℕ) (t u : ℤ) (first : Contains ks (timed_key message w t)) (second : Contains ks (timed_key message w u)) where
    times : List EventKey → List ℤ
    times keys = times_of keys (timed_key message w t)

    own_first : Contains (times ks) t
    unfolding times
    own_first = own_time ks message (at w t) first

    own_second : Contains (times ks) u
    unfolding times
    own_second = subst (λ (l : List ℤ). Contains l u) (sym (same_times message w t u ks)) (own_time ks message (at w u) second)

    more : (s : ℤ) → Contains (times ks) s → Contains (times js) s
    unfolding times
    more s held = times_moved ks js grown (timed_key message w t) s held

    key_is : (keys : List EventKey) (v : ℤ) → group_key keys (timed_key message w v) ≡ timed_key message w (beginning w (times keys) v)
    unfolding times
    key_is keys v = ap (λ (l : List ℤ). timed_key message w (beginning w l v)) (same_times message w v t keys)

    time_of_key : (a b : ℤ) → timed_key message w a ≡ timed_key message w b → a ≡ b
    time_of_key a b same = ap (λ (m : SeenMoment). m.time) (same_Some (at w a) (at w b) (ap (λ (k : EventKey). k.moment) same))

    -- two of one group stay so
    stay : group_key ks (timed_key message w t) ≡ group_key ks (timed_key message w u) → group_key js (timed_key message w t) ≡ group_key js (timed_key message w u)
    stay same =
        let were : beginning w (times ks) t ≡ beginning w (times ks) u = time_of_key _ _ (sym (key_is ks t) ∙ same ∙ key_is ks u) in
        key_is js t ∙ ap (λ (b : ℤ). timed_key message w b) (still_one w (times ks) (times js) more t u own_first own_second were) ∙ sym (key_is js u)

    -- and two of a group that has only keys which were there were of one
    were : ((k : EventKey) → Contains js k → group_key js k ≡ group_key js (timed_key message w t) → Contains ks k)
        → group_key js (timed_key message w t) ≡ group_key js (timed_key message w u) → group_key ks (timed_key message w t) ≡ group_key ks (timed_key message w u)
    unfolding times
    were old same =
        let are : beginning w (times js) t ≡ beginning w (times js) u = time_of_key _ _ (sym (key_is js t) ∙ same ∙ key_is js u) in
        key_is ks t ∙ ap (λ (b : ℤ). timed_key message w b) (once_one w (times ks) (times js) more t u own_first own_second are old_time) ∙ sym (key_is ks u)
      where
        old_time : (s : ℤ) → Contains (times js) s → beginning w (times js) s ≡ beginning w (times js) t → Contains (times ks) s
        old_time s held begins =
            let (k, among, gives) = giver (time_with (timed_key message w t)) js s held in
            let is : k ≡ timed_key message w s = alike_key message (at w t) k s gives in
            let there : Contains ks (timed_key message w s) =
            subst (Contains ks) is (old k among (ap (group_key js) is ∙ key_is js s ∙ ap (λ (b : ℤ). timed_key message w b) begins ∙ sym (key_is js t))) in
            subst (λ (l : List ℤ). Contains l s) (sym (same_times message w t s ks)) (own_time ks message (at w s) there)

-- ---- any two keys
-- two keys of one group are one key, or they are of one message and one window
one_series : (ma mc : MessageKey) (oa oc : Option SeenMoment) (keys : List EventKey) → group_key keys (made_key ma oa) ≡ group_key keys (made_key mc oc)
    → (made_key ma oa ≡ made_key mc oc) ⊎ ((m : MessageKey) × (w : ℕ) × (t : ℤ) × (u : ℤ) × (made_key ma oa ≡ timed_key m w t) × (made_key mc oc ≡ timed_key m w u))
one_series ma mc None None keys same = inl (ap (λ (m : MessageKey). made_key m None) (ap (λ (k : EventKey). k.message) same))
one_series ma mc None (Some n) keys same = absurd (none-some _ (ap (λ (k : EventKey). k.moment) same))
one_series ma mc (Some n) None keys same = absurd (none-some _ (sym (ap (λ (k : EventKey). k.moment) same)))
one_series ma mc (Some n) (Some o) keys same =
    let message : ma ≡ mc = ap (λ (k : EventKey). k.message) same in
    let window : n.window ≡ o.window = ap (λ (m : SeenMoment). m.window) (same_Some _ _ (ap (λ (k : EventKey). k.moment) same)) in
    inr (ma, n.window, n.time, o.time, refl, ap (λ (m : MessageKey). made_key m (Some o)) (sym message) ∙ ap (λ (w : ℕ). timed_key ma w o.time) (sym window))

module _ (ks js : List EventKey) (grown : (k : EventKey) → Contains ks k → Contains js k) (a c : EventKey) (first : Contains ks a) (second : Contains ks c) where
  -- two keys of one group stay so
  pub still_grouped : group_key ks a ≡ group_key ks c → group_key js a ≡ group_key js c
  still_grouped same = elim (one_series a.message c.message a.moment c.moment ks same) [
    | inl is ↦ ap (group_key js) is
    | inr t ↦ (
        let (m, w, t, u, is, is') = t in
        ap (group_key js) is
        ∙ stay ks js grown m w t u (subst (Contains ks) is first) (subst (Contains ks) is' second) (ap (group_key ks) (sym is) ∙ same ∙ ap (group_key ks) is')
        ∙ ap (group_key js) (sym is'))
  ]

  -- and two of a group that has only keys which were there were of one
  pub once_grouped : ((k : EventKey) → Contains js k → group_key js k ≡ group_key js a → Contains ks k) → group_key js a ≡ group_key js c → group_key ks a ≡ group_key ks c
  once_grouped old same = elim (one_series a.message c.message a.moment c.moment js same) [
    | inl is ↦ ap (group_key ks) is
    | inr t ↦ (
        let (m, w, t, u, is, is') = t in
        ap (group_key ks) is
        ∙ were ks js grown m w t u (subst (Contains ks) is first) (subst (Contains ks) is' second)
        (λ k held grouped. old k held (grouped ∙ ap (group_key js) (sym is)))
        (ap (group_key js) (sym is) ∙ same ∙ ap (group_key js) is')
        ∙ ap (group_key ks) (sym is'))
  ]
