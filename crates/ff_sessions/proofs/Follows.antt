-- Sessions that follow one another, with one session more.
use Rattle.std.proofs.Common.{◌≡◌, List, [], ◌∷◌, ◌++◌, refl, sym, subst}
use Rattle.std.specs.Prelude.{Option, Some, None}
use Rattle.ff_core.specs.Account.{Start}
use Rattle.ff_mount.specs.declared.stop.MountStop.{MountStop}
use Rattle.ff_sessions.specs.Following.{Follow}
use Rattle.ff_sessions.specs.Items.{Item}
use Rattle.ff_sessions.specs.Sessions.{AreSessions, IsFollowed, IsNextSession, Setup, start_after}
use Rattle.ff_sessions.specs.declared.session.Session.{Session}

-- one more session that has an image
pub follow_more : (setup : Setup) (start : Start) (items : List Item) (sessions : List Session) (next : Start) (middle left : List Item)
    (session : Session) → Follow setup start items sessions next middle → IsNextSession setup next session middle left
    → session.stop ≡ None → Follow setup start items (sessions ++ session ∷ []) (start_after setup session) left
follow_more setup start items [] next middle left session (start_is, items_are) is imaged =
    (left, rw (start_is, items_are) is, imaged, (refl, refl))
follow_more setup start items (first ∷ later) next middle left session (between, is_first, first_imaged, rest) is imaged =
    (between, is_first, first_imaged, follow_more setup (start_after setup first) between later next middle left session rest is imaged)

followed_on : (stop : Option MountStop) (later : List Session) (Follows : Type 0) → stop ≡ None → Follows
    → IsFollowed stop later Follows
followed_on stop later Follows none follows = subst (λ (s : Option MountStop). IsFollowed s later Follows) (sym none) follows

followed_last : (stop : Option MountStop) (Follows : Type 0) → (stop ≡ None → Follows) → IsFollowed stop [] Follows
followed_last None Follows follows = follows refl
followed_last (Some stop) Follows follows = refl

-- the last session
pub follow_last : (setup : Setup) (start : Start) (items : List Item) (sessions : List Session) (next : Start) (middle left : List Item)
    (session : Session) → Follow setup start items sessions next middle → IsNextSession setup next session middle left
    → (session.stop ≡ None → left ≡ []) → AreSessions setup start items (sessions ++ session ∷ [])
follow_last setup start items [] next middle left session (start_is, items_are) is ends =
    (left, rw (start_is, items_are) is, followed_last session.stop (left ≡ []) ends)
follow_last setup start items (first ∷ later) next middle left session (between, is_first, first_imaged, rest) is ends = (
  between,
  is_first,
  followed_on first.stop (later ++ session ∷ []) (AreSessions setup (start_after setup first) between (later ++ session ∷ []))
      first_imaged (follow_last setup (start_after setup first) between later next middle left session rest is ends),
)
