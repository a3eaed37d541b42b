-- Good sessions never run out of event numbers: none of their calls is answered that the session is spent.
use Rattle.std.proofs.Common.{◌≢◌, ℕ, List, [], ◌∷◌, sym, subst, arith}
use Rattle.std.specs.Prelude.{All, Option, None, Some}
use Rattle.std.proofs.lemmas.List.Elements.{All-cons, All-nil}
use Rattle.ff_core.specs.Account.{Start, opening_at}
use Rattle.ff_model.proofs.Spent.{legal-unspent}
use Rattle.ff_model.specs.declared.op.Reply.TheVariants.{Spent}
use Rattle.ff_mount.specs.declared.stop.MountStop.{MountStop}
use Rattle.ff_sessions.specs.Items.{Item}
use Rattle.ff_sessions.specs.Sessions.{AreSessions, IsFollowed, IsGood, Setup, arrive_by, start_after}
use Rattle.ff_sessions.specs.declared.session.Session.{Session}

-- no call of the session was answered so
abbrev pub IsUnspent : Session → Type 0
IsUnspent session = All (λ entry. entry.reply ≢ Spent) session.account.entries

pub never_spent : (setup : Setup) (start : Start) (arrive : ℕ) (session : Session) → IsGood setup start arrive session
    → IsUnspent session
never_spent setup start arrive session good =
    let account = good.due.is_account in
    let reached = account.events in
    let left = good.unspent in
    legal-unspent (opening_at setup.geometry start) [] session.account.entries account.legal (omega arith)

-- nor of the sessions behind one
followed_unspent : (stop : Option MountStop) (later : List Session) (Follows : Type 0) → IsFollowed stop later Follows
    → (Follows → All IsUnspent later) → All IsUnspent later
followed_unspent None later Follows follows unspent = unspent follows
followed_unspent (Some stop) later Follows none unspent =
    subst (λ (sessions : List Session). All IsUnspent sessions) (sym none) (All-nil IsUnspent)

-- no call of a run of sessions was answered so
pub sessions_unspent : (setup : Setup) (start : Start) (items : List Item) (sessions : List Session)
    → AreSessions setup start items sessions → All IsUnspent sessions
sessions_unspent setup start items [] are = All-nil IsUnspent
sessions_unspent setup start items (session ∷ later) (left, next, follows) =
    All-cons IsUnspent session later (never_spent setup start (arrive_by setup.geometry next.ending) session next.good)
    (followed_unspent session.stop later (AreSessions setup (start_after setup session) left later) follows
    (λ are. sessions_unspent setup (start_after setup session) left later are))
