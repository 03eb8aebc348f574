pub mod FaithfulAudit
