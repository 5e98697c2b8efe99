-- SameLetters: what arrives as it was sent is the letter that was sent. SentLists: what is sent of a letter is a message.
pub mod SameLetters
pub mod SentLists
