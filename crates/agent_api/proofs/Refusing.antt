-- The statuses of requests that HTTP itself refuses.
use Rattle.std.proofs.Common.{◌≡◌, refl}
use Rattle.httparse.specs.declared.Error.TheVariants as parser
use Rattle.http1.specs.ReadError.{status_of}
use Rattle.http1.specs.declared.error.ReadError.{ReadError}
use Rattle.http1.specs.declared.error.ReadError.TheVariants.{Parse, BareLineFeed, TooLarge, UriTooLong, Host, Framing, Chunk, UnexpectedEof, UnexpectedResponse}
use Rattle.http_server.specs.declared.state.Refusal.TheVariants.{Unreadable}
use Rattle.agent_api.specs.HttpRefusals.{status_in}

-- what cannot be read is answered with its status
pub status_of_unread : (e : ReadError) → status_of e ≡ status_in (Unreadable e)
status_of_unread (Parse parser.HeaderName) = refl
status_of_unread (Parse parser.HeaderValue) = refl
status_of_unread (Parse parser.NewLine) = refl
status_of_unread (Parse parser.Status) = refl
status_of_unread (Parse parser.Token) = refl
status_of_unread (Parse parser.TooManyHeaders) = refl
status_of_unread (Parse parser.Version) = refl
status_of_unread BareLineFeed = refl
status_of_unread TooLarge = refl
status_of_unread UriTooLong = refl
status_of_unread Host = refl
status_of_unread (Framing e) = refl
status_of_unread (Chunk e) = refl
status_of_unread UnexpectedEof = refl
status_of_unread UnexpectedResponse = refl
